-- What is still to be run, and what was written so far.
use Rattle.std.proofs.Common.{◌≡◌, ◌<◌, ◌≤◌, ℕ, false, map, ◌∙◌, sym, ap, subst, refl, inl, inr, List, [], ◌∷◌, ◌++◌}
use Rattle.std.proofs.KnownBytes.{Appends-nil}
use Rattle.rr_base.specs.declared.name.TheConstants.ClassId.{OBJECT}
use Rattle.rr_builtin.specs.Acts.{with_array, with_object}
use Rattle.rr_builtin.specs.News.{new_plain}
use Rattle.rr_base.specs.declared.name.ClassId.{ClassId}
use Rattle.rr_base.specs.declared.name.Sym.{Sym}
use Rattle.rr_space.specs.Graph.{plain}
use Rattle.rr_space.specs.Parts.{below_parts, field_part, value_triple}
use Rattle.rr_space.specs.Tables.{Table, Here, IsRestKept}
use Rattle.rr_space.specs.declared.refer.Ref.{Ref}
use Rattle.rr_space.specs.declared.refer.Ref.TheVariants.{Local}
use Rattle.rr_tree.specs.declared.program.Program.{Program}
use Rattle.rr_eval.specs.declared.problem.Response.{Response}
use Rattle.rr_eval.specs.declared.problem.Answer.TheVariants.{Gave, Raised}
use Rattle.rr_eval.specs.Script.{Asked, World, Outcome, Ended, Spent, objects_of}
use Rattle.rr_eval.specs.Requests.{Course, Adds}
use Rattle.rr_eval.specs.Served.{Exchange, course_after, Served}
use Rattle.rr_eval.specs.Alone.{Alone, AloneExceeds}
use Rattle.rr_store.specs.Stores.{Store, new_store}
use Rattle.rr_eval.specs.declared.problem.Problem.TheVariants.{NotHere}
use Rattle.rr_eval.specs.declared.problem.Response.TheVariants.{Fails}
use Rattle.rr_base.specs.declared.fault.Fault.{Fault}
use Rattle.rr_base.specs.declared.fault.Fault.TheVariants.{Limit}
use Rattle.rr_base.specs.declared.limits.Limits.{Limits}
use Rattle.rr_base.specs.declared.limits.LimitKind.TheVariants.{Slots}
use Rattle.rr_eval.specs.declared.run.Outcome.TheVariants.{Stopped}
use Rattle.rr_eval.specs.Acts.{IsRefusal}
use Rattle.rr_eval.specs.Exceptions.{IsTold}
use Rattle.rr_eval.specs.Rules.{Context, start_state, first_memory}
use Rattle.rr_eval.specs.View.{View}
use Rattle.rr_eval.specs.Turns.{context_of, remaining, asking_then, answered, state_of}
use Rattle.rr_eval.specs.Written.{Written, IsBeginning, WritesAll, WritesBeginning, FallsShort}
use Rattle.rr_eval.specs.Runs.{IsRun, program_meaning, first_course, RepliesSo, IsWaitingFor, IsFull, text_of, text_asked, piece_asked, no_objects, first_objects, IsRaised, IsDone, IsSpent}
use Rattle.rr_eval.proofs.Bytes.{writes_both, falls_short_after, falls_short_longer, writes_beginning}
use Rattle.rr_eval.proofs.Entered.{replied}
use Rattle.rr_eval.proofs.Printed.{text-push, remaining_grows, asking_grows}

-- the course of these exchanges
abbrev pub course_of : World → List Exchange → Course
course_of w exchanges = course_after (first_course w) exchanges

-- exchanges do not change the environment
keeps_world : (w : World) (exchanges : List Exchange) → Adds w → Adds (course_of w exchanges).world
keeps_world w [] adds = adds
keeps_world w (x ∷ xs) adds = keeps_world w xs adds

world_same : (w : World) (exchanges : List Exchange) → (course_of w exchanges).world ≡ w
world_same w [] = refl
world_same w (x ∷ xs) = world_same w xs

-- some requests were made and served, and the rest of what all means is still to be done
pub record IsRunning (events : ℕ) (p : Program) (m : View) (t : Table) (all : World → Outcome) (old now : Written) (store : Store) : Type 0 where
  pub exchanges : List Exchange
  pub served : Served (Alone (context_of p)) (new_store events) exchanges store
  pub same : (w : World) → RepliesSo w exchanges → all w ≡ remaining p m t (course_of w exchanges)
  pub wrote : (w : World) → WritesAll old now (text_asked (context_of p) (course_of w exchanges).asked)

-- at first
pub running_first : (events : ℕ) (p : Program) (m : View) (t : Table) (all : World → Outcome) (old : Written) → ((w : World) → all w ≡ remaining p m t (first_course w)) → IsRunning events p m t all old old (new_store events)
running_first events p m t all old e = record { exchanges = []; served = refl; same = λ w so. e w; wrote = λ w. record { wrote = Appends-nil old.bytes; failed = refl } }

module _ (events : ℕ) (p : Program) (m : View) (t : Table) (all : World → Outcome) (old now : Written) (store : Store) (r : IsRunning events p m t all old now store) where
  -- the machine went on without a request
  pub running_on : (n : View) (u : Table) → ((h : Course) → remaining p m t h ≡ remaining p n u h) → IsRunning events p n u all old now store
  running_on n u e = record { exchanges = r.exchanges; served = r.served; same = λ w so. r.same w so ∙ e (course_of w r.exchanges); wrote = r.wrote }

  -- a request was served, and its piece written whole
  pub running_more : (n : View) (u v : Table) (new : Written) (q : Asked) (a : Response) (after : Store) → ((h : Course) → remaining p m t h ≡ asking_then p n u q h) → Alone (context_of p) store q u (record { response = a; table = v }) after
      → WritesAll now new (piece_asked (context_of p) q) → IsRunning events p (answered n a) v all old new after
  running_more n u v new q a after e reply written = record {
    exchanges = record { asked = q; table = u; reply = record { response = a; table = v } } ∷ r.exchanges;
    served = (store, r.served, reply);
    same = λ w so. r.same w so.1 ∙ e (course_of w r.exchanges) ∙ (replied p n a).goes u v q (course_of w r.exchanges) so.0;
    wrote = λ w. let asked = (course_of w r.exchanges).asked in
        subst (WritesAll old new) (sym (text-push (context_of p) asked q)) (writes_both old now new (text_asked (context_of p) asked) (piece_asked (context_of p) q) (r.wrote w) written);
  }

  -- a request was served for which nothing is written
  pub running_silent : (n : View) (u v : Table) (q : Asked) (a : Response) → ((h : Course) → remaining p m t h ≡ asking_then p n u q h) → Alone (context_of p) store q u (record { response = a; table = v }) store
      → piece_asked (context_of p) q ≡ [] → IsRunning events p (answered n a) v all old now store
  running_silent n u v q a e reply none = running_more n u v now q a store e reply (subst (WritesAll now now) (sym none) (record { wrote = Appends-nil now.bytes; failed = refl }))

  -- a piece could not be written whole
  pub running_failed : (n : View) (u : Table) (new : Written) (q : Asked) → ((h : Course) → remaining p m t h ≡ asking_then p n u q h) → FallsShort now new (piece_asked (context_of p) q)
      → (w : World) → RepliesSo w r.exchanges → FallsShort old new (text_of (context_of p) (all w))
  running_failed n u new q e written w so =
      let h = course_of w r.exchanges in
      let more = h.asked ++ q ∷ [] in
      let short = falls_short_after old now new (text_asked (context_of p) h.asked) (piece_asked (context_of p) q) (r.wrote w) written in
      let begins = subst (IsBeginning (text_asked (context_of p) more)) (sym (ap (text_of (context_of p)) (r.same w so ∙ e h))) (asking_grows (context_of p) p n u q h) in
      falls_short_longer old new (text_asked (context_of p) h.asked ++ piece_asked (context_of p) q) (text_of (context_of p) (all w)) short (subst (λ l. IsBeginning l (text_of (context_of p) (all w))) (text-push (context_of p) h.asked q) begins)

  -- nothing more was printed
  pub running_stopped : (w : World) → RepliesSo w r.exchanges → WritesBeginning old now (text_of (context_of p) (all w))
  running_stopped w so =
      let h = course_of w r.exchanges in
      writes_beginning old now (text_asked (context_of p) h.asked) (text_of (context_of p) (all w)) (r.wrote w) (subst (IsBeginning (text_asked (context_of p) h.asked)) (sym (ap (text_of (context_of p)) (r.same w so))) (remaining_grows (context_of p) p m t h))

  -- all ended with an exception, of which this is told
  pub running_raised : (n : View) (u : Table) (v : Ref) (told : List ℕ) → ((h : Course) → remaining p m t h ≡ Ended (Raised v) (state_of p n u h) n.left) → IsTold u v told
      → (w : World) → RepliesSo w r.exchanges → IsRaised (all w) told × WritesAll old now (text_of (context_of p) (all w))
  running_raised n u v told ends is w so =
      subst (λ (o : Outcome). IsRaised o told × WritesAll old now (text_of (context_of p) o)) (sym (r.same w so ∙ ends (course_of w r.exchanges))) (is, r.wrote w)

  -- all ended with a value; all is out of steps
  pub running_done : (n : View) (u : Table) (v : Ref) → ((h : Course) → remaining p m t h ≡ Ended (Gave v) (state_of p n u h) n.left) → (w : World) → RepliesSo w r.exchanges → IsDone (all w) × WritesAll old now (text_of (context_of p) (all w))
  running_done n u v ends w so =
      subst (λ (o : Outcome). IsDone o × WritesAll old now (text_of (context_of p) o)) (sym (r.same w so ∙ ends (course_of w r.exchanges))) (tt, r.wrote w)

  pub running_spent : (n : View) (u : Table) → ((h : Course) → remaining p m t h ≡ Spent (state_of p n u h)) → (w : World) → RepliesSo w r.exchanges → IsSpent (all w) × WritesAll old now (text_of (context_of p) (all w))
  running_spent n u ends w so =
      subst (λ (o : Outcome). IsSpent o × WritesAll old now (text_of (context_of p) o)) (sym (r.same w so ∙ ends (course_of w r.exchanges))) (tt, r.wrote w)

  -- no more objects than there may be
  pub running_fits : (slots : ℕ) (o : Course → Outcome) → ((h : Course) → remaining p m t h ≡ o h) → ((h : Course) → objects_of (o h) ≤ slots) → (w : World) → RepliesSo w r.exchanges → objects_of (all w) ≤ slots
  running_fits slots o ends fits w so =
      subst (λ (x : Outcome). objects_of x ≤ slots) (sym (r.same w so ∙ ends (course_of w r.exchanges))) (fits (course_of w r.exchanges))

  -- what is asked next comes to more objects than there may be
  pub running_full : (slots : ℕ) (n : View) (u : Table) (q : Asked) → ((h : Course) → remaining p m t h ≡ asking_then p n u q h) → AloneExceeds (context_of p) store slots q u → IsFull (context_of p) slots r.exchanges store all
  running_full slots n u q e exceeds = inr (
    q,
    u,
    exceeds,
    λ w so none.
        let h = course_of w r.exchanges in
        subst (IsWaitingFor q u) (sym (r.same w so ∙ e h ∙ (replied p n (Fails NotHere)).none u q h (ap (λ (z : World). z h.asked q u) (world_same w r.exchanges) ∙ none))) (refl, (h.asked, refl)),
  )

  -- the program makes more objects than there may be
  pub running_passes : (slots : ℕ) → ((h : Course) → Adds h.world → slots < objects_of (remaining p m t h)) → IsFull (context_of p) slots r.exchanges store all
  running_passes slots more = inl (λ w so adds. subst (λ (o : Outcome). slots < objects_of o) (sym (r.same w so)) (more (course_of w r.exchanges) (keeps_world w r.exchanges adds)))

pub nothing_written : (c : Context) (all : Outcome) (now : Written) → WritesBeginning now now (text_of c all)
nothing_written c all now = record { part = []; begins = (text_of c all, refl); wrote = Appends-nil now.bytes; failed = refl }

-- what stops before anything is asked
pub stopped_first : (p : Program) (limits : Limits) (now : Written) (fault : Fault) → IsRefusal fault → (fault ≡ Limit Slots → IsFull (context_of p) limits.slots [] (new_store limits.events) (program_meaning p limits)) → IsRun (context_of p) (program_meaning p limits) limits now now (Stopped fault)
stopped_first p limits now fault refused full = record {
  exchanges = [];
  store = new_store limits.events;
  served = refl;
  leaves = λ w so. (refused, nothing_written (context_of p) (program_meaning p limits w) now);
  fits = λ w so. tt;
  full = full;
}

-- a script begins with no object
pub first_table : (t : Table) (slots : ℕ) → t.slots ≡ [] → t.below ≡ [] → t.keys ≡ [] → t.limit ≡ slots → t.owner ≡ 1 → t.next_message ≡ 1 → no_objects slots ≡ t
first_table t slots a b c d e f =
    ap (λ x. record { slots = x; below = []; keys = []; limit = slots; owner = 1; next_message = 1 }) (sym a)
    ∙ ap (λ x. record { slots = t.slots; below = x; keys = []; limit = slots; owner = 1; next_message = 1 }) (sym b)
    ∙ ap (λ x. record { slots = t.slots; below = t.below; keys = x; limit = slots; owner = 1; next_message = 1 }) (sym c)
    ∙ ap (λ x. record { slots = t.slots; below = t.below; keys = t.keys; limit = x; owner = 1; next_message = 1 }) (sym d)
    ∙ ap (λ x. record { slots = t.slots; below = t.below; keys = t.keys; limit = t.limit; owner = x; next_message = 1 }) (sym e)
    ∙ ap (λ x. record { slots = t.slots; below = t.below; keys = t.keys; limit = t.limit; owner = t.owner; next_message = x }) (sym f)

-- one object without fields more
pub one_plain : (t u : Table) (class : ClassId) (fields : List (Sym × Ref)) → fields ≡ []
    → u.slots ≡ t.slots ++ Here (record { kind = plain; class = class.0; bytes = []; frozen = false; triples = map value_triple (map field_part fields) }) ∷ []
    → u.below ≡ t.below ++ below_parts (map field_part fields) ∷ [] → u.keys ≡ t.keys ++ [] ∷ [] → IsRestKept t u → u ≡ with_object (new_plain class.0) [] t
one_plain t u class fields none slots below keys rest =
    let w = with_object (new_plain class.0) [] t in
    let first = slots ∙ ap (λ (l : List (Sym × Ref)). t.slots ++ Here (record { kind = plain; class = class.0; bytes = []; frozen = false; triples = map value_triple (map field_part l) }) ∷ []) none in
    let second = below ∙ ap (λ (l : List (Sym × Ref)). t.below ++ below_parts (map field_part l) ∷ []) none in
    ap (λ x. record { slots = x; below = u.below; keys = u.keys; limit = u.limit; owner = u.owner; next_message = u.next_message }) first
    ∙ ap (λ x. record { slots = w.slots; below = x; keys = u.keys; limit = u.limit; owner = u.owner; next_message = u.next_message }) second
    ∙ ap (λ x. record { slots = w.slots; below = w.below; keys = x; limit = u.limit; owner = u.owner; next_message = u.next_message }) keys
    ∙ ap (λ x. record { slots = w.slots; below = w.below; keys = w.keys; limit = x; owner = u.owner; next_message = u.next_message }) rest.limit
    ∙ ap (λ x. record { slots = w.slots; below = w.below; keys = w.keys; limit = w.limit; owner = x; next_message = u.next_message }) rest.owner
    ∙ ap (λ x. record { slots = w.slots; below = w.below; keys = w.keys; limit = w.limit; owner = w.owner; next_message = x }) rest.next_message

-- the first three objects
pub first_state : (p : Program) (t u : Table) (most slots : ℕ) → no_objects slots ≡ t → u ≡ with_array [] (with_object (new_plain OBJECT.0) [] (with_object (new_plain OBJECT.0) [] t)) → start_state (context_of p) most (Local 0) (first_objects slots) ≡ record { memory = first_memory (context_of p) most (Local 0) u; asked = [] }
first_state p t u most slots e made = ap (start_state (context_of p) most (Local 0)) (ap (λ x. with_array [] (with_object (new_plain OBJECT.0) [] (with_object (new_plain OBJECT.0) [] x))) e ∙ sym made)
