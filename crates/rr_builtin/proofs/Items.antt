-- Numbers and texts that are gathered to be sorted.
use Rattle.std.proofs.Common.{◌≡◌, ◌∙◌, nat_eq, ℕ, ℤ, suc, ◌+◌, Bool, true, false, List, [], ◌∷◌, ◌++◌, length, map, slice_index_or, Some, None, Ok, refl, sym, ap, subst, arith, if◌then◌else◌}
use Rattle.std.specs.List.{All}
use Rattle.std.proofs.lemmas.List.Elements.{All-nil, All-cons, All-push}
use Rattle.rr_space.specs.Graph.{Value}
use Rattle.rr_space.specs.Tables.{Table, Below}
use Rattle.rr_space.specs.Sound.{IsTableSound}
use Rattle.rr_space.specs.Parts.{value_of, IsWithin}
use Rattle.rr_space.specs.Views.{text_at}
use Rattle.rr_space.specs.Kinds.{kind_at}
use Rattle.rr_space.specs.declared.refer.Ref.{Ref}
use Rattle.rr_space.specs.declared.refer.Ref.TheVariants.{Int}
use Rattle.rr_space.proofs.Writing.{map_push}
use Rattle.rr_text.specs.Reads.{IsReadWith, IsAmong}
use Rattle.rr_builtin.specs.declared.sorts.TextItem.{TextItem}
use Rattle.rr_builtin.specs.Acts.{Act, MakesArray, IsRefAmong, element_at}
use Rattle.rr_builtin.specs.Elements.{count_at, elements_of, each_as}
use Rattle.rr_builtin.specs.Kinds.{is_integer_kind}
use Rattle.rr_builtin.specs.Sums.{integer_of}
use Rattle.rr_builtin.specs.Objects.{is_text_kind}
use Rattle.rr_builtin.specs.ValueClasses.{kind_of_value, bytes_of_value}
use Rattle.rr_builtin.specs.Sorts.{is_less, is_text_before, integer_value, text_of, text_value, item_of, incomparable, in_order, sorted_like, sort_act}
use Rattle.rr_builtin.proofs.Classing.{kind_is, bytes_are}
use Rattle.rr_builtin.proofs.Each.{each_more}
use Rattle.rr_builtin.proofs.Listing.{listed}

pub numbers_are : (zs : List ℤ) → map value_of (map (λ z. Int z) zs) ≡ map integer_value zs
numbers_are [] = refl
numbers_are (z ∷ zs) = ap (λ vs. integer_value z ∷ vs) (numbers_are zs)

pub texts_are : (is : List TextItem) → map value_of (map (λ (i : TextItem). i.value) is) ≡ map text_value (map item_of is)
texts_are [] = refl
texts_are (i ∷ is) = ap (λ vs. value_of i.value ∷ vs) (texts_are is)

pub all_mapped : {X : Type 0} (P : Ref → Type 0) (f : X → Ref) (xs : List X) → All (λ x. P (f x)) xs → All P (map f xs)
all_mapped P f [] all = λ k d lt. absurd (let no : ⊥ = omega (arith, lt) in no)
all_mapped P f (x ∷ xs) all = All-cons P (f x) (map f xs) (all 0 x (omega arith)) (all_mapped P f xs (λ i e l. all (suc i) e (omega (arith, l))))

pub all_numbers : (P : Ref → Type 0) → ((z : ℤ) → P (Int z)) → (zs : List ℤ) → All P (map (λ z. Int z) zs)
all_numbers P h zs = all_mapped P (λ z. Int z) zs (λ k d lt. h (slice_index_or zs k d))

-- the texts that the first elements of an array are
pub record IsItems (t : Table) (v : Ref) (items : List TextItem) (n : ℕ) : Type 0 where
  pub are : (below : Below) → IsReadWith t below → IsAmong below v → each_as (text_of below t) (listed t v n) ≡ Ok (map item_of items)
  pub within : All (λ (i : TextItem). IsWithin (length t.slots) i.value) items
  pub among : (below : Below) → IsReadWith t below → IsRefAmong below v → All (λ (i : TextItem). IsRefAmong below i.value) items

pub items_none : (t : Table) (v : Ref) → IsItems t v [] 0
items_none t v = record {
  are = λ below read among. refl;
  within = All-nil (λ (i : TextItem). IsWithin (length t.slots) i.value);
  among = λ below read among. All-nil (λ (i : TextItem). IsRefAmong below i.value);
}

pub items_more : (t : Table) (v : Ref) (items new : List TextItem) (i : TextItem) (n : ℕ) → IsItems t v items n → new ≡ items ++ i ∷ []
    → ((below : Below) → IsReadWith t below → IsAmong below v → text_of below t (element_at t v n) ≡ Some (item_of i)) → IsWithin (length t.slots) i.value
    → ((below : Below) → IsReadWith t below → IsRefAmong below v → IsRefAmong below i.value) → IsItems t v new (n + 1)
items_more t v items new i n g is one within among = subst (λ (its : List TextItem). IsItems t v its (n + 1)) (sym is) (record {
  are = λ below read led.
      subst (λ k. each_as (text_of below t) (listed t v k) ≡ Ok (map item_of (items ++ i ∷ []))) (let z : suc n ≡ n + 1 = omega arith in z)
      (each_more (text_of below t) (listed t v n) (element_at t v n) (item_of i) (map item_of items) (g.are below read led) (one below read led) ∙ ap (λ ps. Ok ps) (sym (map_push item_of items i)));
  within = All-push (λ (i : TextItem). IsWithin (length t.slots) i.value) items i g.within within;
  among = λ below read led. All-push (λ (i : TextItem). IsRefAmong below i.value) items i (g.among below read led) (among below read led);
})

module _ (t : Table) (below : Below) (r : Ref) (sound : IsTableSound t.slots t.below) (read : IsReadWith t below) (among : IsAmong below r) where
  -- a text is seen by its bytes
  pub text_seen : is_text_kind (kind_at t r) ≡ true → text_of below t (value_of r) ≡ Some (text_at t r, value_of r)
  text_seen e =
      ap (λ b. if b then Some (bytes_of_value below t (value_of r), value_of r) else None) (ap is_text_kind (sym (kind_is t below r sound read among)) ∙ e)
      ∙ ap (λ bs. Some (bs, value_of r)) (sym (bytes_are t below r sound read among))

  pub none_seen : is_text_kind (kind_at t r) ≡ false → text_of below t (value_of r) ≡ None
  none_seen e = ap (λ b. if b then Some (bytes_of_value below t (value_of r), value_of r) else None) (ap is_text_kind (sym (kind_is t below r sound read among)) ∙ e)

-- ---- By the kind of the first element.

module _ (below : Below) (t : Table) (x : Value) (xs : List Value) where
  abbrev numbers : Act
  numbers = in_order below t is_less integer_value x (each_as integer_of xs)

  abbrev texts : Act
  texts = in_order below t is_text_before text_value x (each_as (text_of below t) xs)

  abbrev others : Bool → Act
  others b = if b then texts else incomparable below t x x

  pub like_numbers : is_integer_kind (kind_of_value below t x) ≡ true → in_order below t is_less integer_value x (each_as integer_of xs) ≡ sorted_like below t x xs
  like_numbers e = sym (ap (λ b. if b then numbers else others (is_text_kind (kind_of_value below t x))) e)

  pub like_texts : is_integer_kind (kind_of_value below t x) ≡ false → is_text_kind (kind_of_value below t x) ≡ true → in_order below t is_text_before text_value x (each_as (text_of below t) xs) ≡ sorted_like below t x xs
  like_texts e f = sym (ap (λ b. if b then numbers else others (is_text_kind (kind_of_value below t x))) e ∙ ap others f)

  pub like_none : is_integer_kind (kind_of_value below t x) ≡ false → is_text_kind (kind_of_value below t x) ≡ false → incomparable below t x x ≡ sorted_like below t x xs
  like_none e f = sym (ap (λ b. if b then numbers else others (is_text_kind (kind_of_value below t x))) e ∙ ap others f)

pub sorted_first : (below : Below) (t : Table) (v : Ref) (x : Value) → nat_eq (count_at t v) 0 ≡ false → x ≡ element_at t v 0 → sorted_like below t x (elements_of t v) ≡ sort_act below v t
sorted_first below t v x e is =
    ap (λ y. sorted_like below t y (elements_of t v)) is ∙ sym (ap (λ b. if b then MakesArray [] else sorted_like below t (element_at t v 0) (elements_of t v)) e)
