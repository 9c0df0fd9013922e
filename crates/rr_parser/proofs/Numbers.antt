-- Names and texts by number.
use Rattle.std.proofs.Common.{◌≡◌, ℕ, zero, suc, ◌+◌, ◌<◌, ◌||◌, not, Bool, true, false, cond, List, [], ◌∷◌, ◌++◌, length, get_or, take, map, fold, refl, sym, ap, ◌∙◌}
use Rattle.std.specs.Prelude.{Vec, slice_get, Option, Some, None}
use Rattle.std.specs.List.{list_any, position_or_len}
use Rattle.std.specs.Borrow.{Bor}
use Rattle.std.specs.declared.alloc.Global.{Global}
use Rattle.std.proofs.lemmas.List.{map-append, take_more, append_assoc}
use Rattle.std.proofs.lemmas.Option.{none-some}
use Rattle.rr_lexer.specs.declared.kind.Kind.{Kind}
use Rattle.rr_lexer.specs.declared.kind.Kind.TheVariants as kinds
use Rattle.rr_lexer.specs.declared.kind.Token.{Token}
use Rattle.rr_lexer.specs.Lines.{is_def}
use Rattle.rr_parser.specs.declared.method_names.MethodName.{MethodName}
use Rattle.rr_parser.specs.declared.word.Sign.{Sign}
use Rattle.rr_parser.specs.declared.word.Word.{Word}
use Rattle.rr_parser.specs.declared.word.WordKind.{WordKind}
use Rattle.rr_parser.specs.declared.word.WordKind.TheVariants as word_kinds
use Rattle.rr_parser.specs.Grammar.Calls.{sign_of_kind}
use Rattle.rr_parser.specs.MethodNames.{operator_name, name_from, method_name_at}
use Rattle.rr_parser.specs.Words.{with_symbol_of, with_text, symbols_behind, word_kind_of, word_with, words_behind}
use Rattle.rr_parser.specs.Numbering.{with_text_of}

-- what has the sign of an assignment is one
pub assigned_kind : (k : WordKind) (q : Sign) → Some q ≡ sign_of_kind k → word_kinds.Assign q ≡ k
assigned_kind (word_kinds.Assign r) q e = cc
assigned_kind _ q e = absurd (none-some q (sym e))

abbrev pub now : Bor (List ℕ) → List ℕ
now k = k.now

pub any_now : (q : List ℕ → Bool) (ks : List (Bor (List ℕ))) → list_any (λ y. q y.now) ks ≡ list_any q (map now ks)
any_now q [] = refl
any_now q (k ∷ ks) = ap (λ b. q k.now || b) (any_now q ks)

pub place_now : (q : List ℕ → Bool) (ks : List (Bor (List ℕ))) → position_or_len (λ y. q y.now) ks ≡ position_or_len q (map now ks)
place_now q [] = refl
place_now q (k ∷ ks) = ap (λ n. cond (not (q k.now)) (1 + n) 0) (place_now q ks)

name_added : (b : Bool) (ks new : List (Bor (List ℕ))) (k : Bor (List ℕ)) → new ≡ cond b ks (ks ++ k ∷ []) → map now new ≡ cond b (map now ks) (map now ks ++ k.now ∷ [])
name_added true ks new k e = ap (map now) e
name_added false ks new k e = ap (map now) e ∙ map-append now ks (k ∷ [])

pub names_added : (q : List ℕ → Bool) (ks new : List (Bor (List ℕ))) (k : Bor (List ℕ)) → new ≡ cond (list_any (λ y. q y.now) ks) ks (ks ++ k ∷ [])
    → map now new ≡ cond (list_any q (map now ks)) (map now ks) (map now ks ++ k.now ∷ [])
names_added q ks new k e = name_added (list_any (λ y. q y.now) ks) ks new k e ∙ ap (λ b. cond b (map now ks) (map now ks ++ k.now ∷ [])) (any_now q ks)

abbrev bytes : Vec ℕ Global → List ℕ
bytes v = v.items

got : (ks : List (Bor (List ℕ))) (i : ℕ) (k : Bor (List ℕ)) → slice_get ks i ≡ Some k → k ≡ get_or ks i k
got [] i k e = absurd cc
got (x ∷ ks) zero k e = cc
got (x ∷ ks) (suc i) k e = got ks i k e

pub symbols_more : (ks : List (Bor (List ℕ))) (i : ℕ) (vs new : List (Vec ℕ Global)) (v : Vec ℕ Global) (k : Bor (List ℕ)) → i < length ks → map bytes vs ≡ map now (take i ks) → new ≡ vs ++ v ∷ [] → v.items ≡ k.now → slice_get ks i ≡ Some k
    → map bytes new ≡ map now (take (i + 1) ks)
symbols_more ks i vs new v k lt e f g h =
    ap (map bytes) f
    ∙ map-append bytes vs (v ∷ [])
    ∙ ap (λ (l : List (List ℕ)). l ++ v.items ∷ []) e
    ∙ ap (λ (x : List ℕ). map now (take i ks) ++ x ∷ []) (g ∙ ap now (got ks i k h))
    ∙ sym (map-append now (take i ks) (get_or ks i k ∷ []))
    ∙ ap (map now) (sym (take_more ks i k lt))

-- ---- words

none_or_same : (source : List ℕ) (texts : List (List ℕ)) (t : Token) (m : Option MethodName) → with_text source texts t t.kind ≡ texts → with_text_of source texts t m ≡ with_text source texts t t.kind
none_or_same source texts t None e = refl
none_or_same source texts t (Some m) e = sym e

name_from-text : (source : List ℕ) (texts : List (List ℕ)) (t : Token) (us : List Token) (k : Kind) → t.kind ≡ k → with_text_of source texts t (name_from t k us) ≡ with_text source texts t t.kind
name_from-text source texts t us kinds.Name e = sym (ap (with_text source texts t) e)
name_from-text source texts t us (kinds.Op o) e = none_or_same source texts t (operator_name t o us) (ap (with_text source texts t) e)
name_from-text source texts t us _ e = refl

-- what begins a method's name is no text
pub name_is_no_text : (source : List ℕ) (texts : List (List ℕ)) (def : Bool) (t : Token) (us : List Token) → with_text_of source texts t (method_name_at def t us) ≡ with_text source texts t t.kind
name_is_no_text source texts true t us = name_from-text source texts t us t.kind refl
name_is_no_text source texts false t us = refl

module _ (source : List ℕ) (names more : List (List ℕ)) (texts held : List (List ℕ)) (def behind : Bool) (t : Token) (us l : List Token) (m : Option MethodName) (here : l ≡ t ∷ us) (is : m ≡ method_name_at def t us)
    (e : more ≡ with_symbol_of source names t m) (f : held ≡ with_text_of source texts t m) (g : behind ≡ is_def t.kind) where
  symbols_now : more ≡ with_symbol_of source names t (method_name_at def t us)
  symbols_now = e ∙ ap (with_symbol_of source names t) is

  texts_now : held ≡ with_text source texts t t.kind
  texts_now = f ∙ ap (with_text_of source texts t) is ∙ name_is_no_text source texts def t us

  pub words_more : (ws new : List Word) (k : WordKind) (all : List Word) → ws ++ words_behind source names texts def l ≡ all → new ≡ ws ++ record { kind = k; blank = t.blank } ∷ [] → k ≡ word_kind_of source names (length texts) t m
      → new ++ words_behind source more held behind us ≡ all
  words_more ws new k all h i j =
      let next = word_with source names (length texts) t (method_name_at def t us) in
      let known = with_symbol_of source names t (method_name_at def t us) in
      ap (λ (q : List Word). q ++ words_behind source more held behind us) i
      ∙ append_assoc ws (record { kind = k; blank = t.blank } ∷ []) (words_behind source more held behind us)
      ∙ ap (λ (v : Word). ws ++ v ∷ words_behind source more held behind us) (ap (λ (q : WordKind). record { kind = q; blank = t.blank }) j ∙ ap (word_with source names (length texts) t) is)
      ∙ ap (λ (q : List (List ℕ)). ws ++ next ∷ words_behind source q held behind us) symbols_now
      ∙ ap (λ (q : List (List ℕ)). ws ++ next ∷ words_behind source known q behind us) texts_now
      ∙ ap (λ (b : Bool). ws ++ next ∷ words_behind source known (with_text source texts t t.kind) b us) g
      ∙ ap (λ (q : List Token). ws ++ words_behind source names texts def q) (sym here)
      ∙ h

  pub symbols_on : (all : List (List ℕ)) → symbols_behind source names def l ≡ all → symbols_behind source more behind us ≡ all
  symbols_on all h =
      ap (λ (q : List (List ℕ)). symbols_behind source q behind us) symbols_now
      ∙ ap (λ (b : Bool). symbols_behind source (with_symbol_of source names t (method_name_at def t us)) b us) g
      ∙ ap (symbols_behind source names def) (sym here)
      ∙ h

  pub texts_on : (all : List (List ℕ)) → fold (λ q token. with_text source q token token.kind) texts l ≡ all → fold (λ q token. with_text source q token token.kind) held us ≡ all
  texts_on all h =
      ap (λ (q : List (List ℕ)). fold (λ q token. with_text source q token token.kind) q us) texts_now
      ∙ ap (fold (λ q token. with_text source q token token.kind) texts) (sym here)
      ∙ h
