-- A step that a ractor makes by itself is one of the machine.
use Rattle.std.proofs.Common.{◌≡◌, ℕ, Some, slice_get, refl}
use Rattle.std.specs.Prelude.{slice_set}
use Rattle.rr_base.specs.declared.name.RactorNo.{RactorNo}
use Rattle.rr_base.specs.declared.name.Sym.{Sym}
use Rattle.rr_move.specs.Laws.{TakingOutIsAMove, PuttingBackUndoes}
use Rattle.rr_space.specs.declared.label.Label.{Label}
use Rattle.rr_world.specs.Views.{Member, Assembly}
use Rattle.rr_world.specs.Acting.{ActsByItself, IsByItself}
use Rattle.rr_world.specs.Enabling.{StandsAt}
use Rattle.rr_world.specs.Outcomes.{reply_of}
use Rattle.rr_world.specs.Runs.{HasOutcome}
use Rattle.rr_world.specs.declared.outcome.Outcome.{Outcome}
use Rattle.rr_world.specs.declared.step.NewObject.{NewObject}
use Rattle.rr_world.specs.declared.step.LastKind.{LastKind}
use Rattle.rr_world.specs.declared.step.Operand.{Operand}
use Rattle.rr_world.specs.declared.step.RaisedPart.{RaisedPart}
use Rattle.rr_world.specs.declared.step.Action.{Action}
use Rattle.rr_world.specs.declared.step.Action.TheVariants as action
use Rattle.rr_world.proofs.Allocs.{allocated_by}
use Rattle.rr_world.proofs.Packs.{packed_by}
use Rattle.rr_world.proofs.Detaching.{detached_by}
use Rattle.rr_world.proofs.Returning.{returned_by}
use Rattle.rr_world.proofs.Plans.{planned_by}
use Rattle.rr_world.proofs.PlanPromoting.{promoted_by}
use Rattle.rr_world.proofs.Opens.{opened_by}
use Rattle.rr_world.proofs.Making.{frozen_by, appended_by, cleared_by, pushed_by, written_by, taken_by, set_by, raised_by}
use Rattle.rr_world.proofs.Pairing.{paired_by, unpaired_by}
use Rattle.rr_world.proofs.Reading.{read_of}

pub acted : TakingOutIsAMove → PuttingBackUndoes → (w w2 : Assembly) (who : RactorNo) (k : ℕ) (m m2 : Member) (a : Action) (r : Outcome) → slice_get w.ractors k ≡ Some m → w2.ractors ≡ slice_set w.ractors k m2
    → w2.channels ≡ w.channels → StandsAt who k → IsByItself a → ActsByItself a r m m2 → HasOutcome (record { who = who; action = a }) (reply_of r) w w2
acted moved undone w w2 who k m m2 (action.Alloc new) r at rs is stands alone A = allocated_by w w2 who k m m2 new r at rs is stands A
acted moved undone w w2 who k m m2 (action.Pack op) r at rs is stands alone A = packed_by w w2 who k m m2 op r at rs is stands A
acted moved undone w w2 who k m m2 (action.Detach op) r at rs is stands alone A = detached_by moved w w2 who k m m2 op r at rs is stands A
acted moved undone w w2 who k m m2 action.PutBack r at rs is stands alone A = returned_by undone w w2 who k m m2 r at rs is stands A
acted moved undone w w2 who k m m2 (action.Plan op) r at rs is stands alone A = planned_by w w2 who k m m2 op r at rs is stands A
acted moved undone w w2 who k m m2 action.Promote r at rs is stands alone A = promoted_by w w2 who k m m2 r at rs is stands A
acted moved undone w w2 who k m m2 action.Open r at rs is stands alone A = opened_by w w2 who k m m2 r at rs is stands A
acted moved undone w w2 who k m m2 (action.Freeze op) r at rs is stands alone A = frozen_by w w2 who k m m2 op r at rs is stands A
acted moved undone w w2 who k m m2 (action.Append op byte) r at rs is stands alone A = appended_by w w2 who k m m2 op byte r at rs is stands A
acted moved undone w w2 who k m m2 (action.Clear op) r at rs is stands alone A = cleared_by w w2 who k m m2 op r at rs is stands A
acted moved undone w w2 who k m m2 (action.Push op x) r at rs is stands alone A = pushed_by w w2 who k m m2 op x r at rs is stands A
acted moved undone w w2 who k m m2 (action.Write op i x) r at rs is stands alone A = written_by w w2 who k m m2 op i x r at rs is stands A
acted moved undone w w2 who k m m2 (action.Take op i) r at rs is stands alone A = taken_by w w2 who k m m2 op i r at rs is stands A
acted moved undone w w2 who k m m2 (action.SetField op name x) r at rs is stands alone A = set_by w w2 who k m m2 op name x r at rs is stands A
acted moved undone w w2 who k m m2 (action.SetRaised op part x) r at rs is stands alone A = raised_by w w2 who k m m2 op part x r at rs is stands A
acted moved undone w w2 who k m m2 (action.SetPair op key x) r at rs is stands alone A = paired_by w w2 who k m m2 op key x r at rs is stands A
acted moved undone w w2 who k m m2 (action.DeletePair op i) r at rs is stands alone A = unpaired_by w w2 who k m m2 op i r at rs is stands A
acted moved undone w w2 who k m m2 (action.Read op l) r at rs is stands alone A = read_of w w2 who k m m2 op l r at rs is stands A
acted moved undone w w2 who k m m2 action.Publish r at rs is stands alone A = absurd alone
acted moved undone w w2 who k m m2 action.Discard r at rs is stands alone A = absurd alone
acted moved undone w w2 who k m m2 (action.Offer to) r at rs is stands alone A = absurd alone
acted moved undone w w2 who k m m2 action.Accept r at rs is stands alone A = absurd alone
acted moved undone w w2 who k m m2 (action.Close to) r at rs is stands alone A = absurd alone
acted moved undone w w2 who k m m2 (action.ClosePort to) r at rs is stands alone A = absurd alone
acted moved undone w w2 who k m m2 (action.ShowLast kind) r at rs is stands alone A = absurd alone
acted moved undone w w2 who k m m2 action.Show r at rs is stands alone A = absurd alone
acted moved undone w w2 who k m m2 (action.Withdraw ticket) r at rs is stands alone A = absurd alone
acted moved undone w w2 who k m m2 (action.Settle ticket) r at rs is stands alone A = absurd alone
acted moved undone w w2 who k m m2 (action.Grab to) r at rs is stands alone A = absurd alone
acted moved undone w w2 who k m m2 action.Start r at rs is stands alone A = absurd alone
acted moved undone w w2 who k m m2 action.End r at rs is stands alone A = absurd alone
acted moved undone w w2 who k m m2 (action.SetConst name op) r at rs is stands alone A = absurd alone
acted moved undone w w2 who k m m2 (action.SetOwn name) r at rs is stands alone A = absurd alone
acted moved undone w w2 who k m m2 (action.GetConst name) r at rs is stands alone A = absurd alone

-- an action that is none of those in which others have a part
pub alone_else : (a : Action) → (a ≡ action.Publish → ⊥) → (a ≡ action.Discard → ⊥) → ((to : RactorNo) → a ≡ action.Offer to → ⊥) → (a ≡ action.Accept → ⊥) → ((to : RactorNo) → a ≡ action.Close to → ⊥) → ((to : RactorNo) → a ≡ action.ClosePort to → ⊥) → ((kind : LastKind) → a ≡ action.ShowLast kind → ⊥) → (a ≡ action.Show → ⊥) → ((ticket : ℕ) → a ≡ action.Withdraw ticket → ⊥) → ((ticket : ℕ) → a ≡ action.Settle ticket → ⊥) → ((to : RactorNo) → a ≡ action.Grab to → ⊥) → (a ≡ action.Start → ⊥) → (a ≡ action.End → ⊥) → ((name : Sym) (op : Operand) → a ≡ action.SetConst name op → ⊥) → ((name : Sym) → a ≡ action.SetOwn name → ⊥) → ((name : Sym) → a ≡ action.GetConst name → ⊥) → IsByItself a
alone_else (action.Alloc new) n0 n1 n2 n3 n4 n5 n6 n7 n8 n9 n10 n11 n12 n13 n14 n15 = tt
alone_else (action.Pack op) n0 n1 n2 n3 n4 n5 n6 n7 n8 n9 n10 n11 n12 n13 n14 n15 = tt
alone_else (action.Detach op) n0 n1 n2 n3 n4 n5 n6 n7 n8 n9 n10 n11 n12 n13 n14 n15 = tt
alone_else action.PutBack n0 n1 n2 n3 n4 n5 n6 n7 n8 n9 n10 n11 n12 n13 n14 n15 = tt
alone_else (action.Plan op) n0 n1 n2 n3 n4 n5 n6 n7 n8 n9 n10 n11 n12 n13 n14 n15 = tt
alone_else action.Promote n0 n1 n2 n3 n4 n5 n6 n7 n8 n9 n10 n11 n12 n13 n14 n15 = tt
alone_else action.Open n0 n1 n2 n3 n4 n5 n6 n7 n8 n9 n10 n11 n12 n13 n14 n15 = tt
alone_else (action.Freeze op) n0 n1 n2 n3 n4 n5 n6 n7 n8 n9 n10 n11 n12 n13 n14 n15 = tt
alone_else (action.Append op byte) n0 n1 n2 n3 n4 n5 n6 n7 n8 n9 n10 n11 n12 n13 n14 n15 = tt
alone_else (action.Clear op) n0 n1 n2 n3 n4 n5 n6 n7 n8 n9 n10 n11 n12 n13 n14 n15 = tt
alone_else (action.Push op x) n0 n1 n2 n3 n4 n5 n6 n7 n8 n9 n10 n11 n12 n13 n14 n15 = tt
alone_else (action.Write op i x) n0 n1 n2 n3 n4 n5 n6 n7 n8 n9 n10 n11 n12 n13 n14 n15 = tt
alone_else (action.Take op i) n0 n1 n2 n3 n4 n5 n6 n7 n8 n9 n10 n11 n12 n13 n14 n15 = tt
alone_else (action.SetField op name x) n0 n1 n2 n3 n4 n5 n6 n7 n8 n9 n10 n11 n12 n13 n14 n15 = tt
alone_else (action.SetRaised op part x) n0 n1 n2 n3 n4 n5 n6 n7 n8 n9 n10 n11 n12 n13 n14 n15 = tt
alone_else (action.SetPair op key x) n0 n1 n2 n3 n4 n5 n6 n7 n8 n9 n10 n11 n12 n13 n14 n15 = tt
alone_else (action.DeletePair op i) n0 n1 n2 n3 n4 n5 n6 n7 n8 n9 n10 n11 n12 n13 n14 n15 = tt
alone_else (action.Read op l) n0 n1 n2 n3 n4 n5 n6 n7 n8 n9 n10 n11 n12 n13 n14 n15 = tt
alone_else action.Publish n0 n1 n2 n3 n4 n5 n6 n7 n8 n9 n10 n11 n12 n13 n14 n15 = absurd (n0 refl)
alone_else action.Discard n0 n1 n2 n3 n4 n5 n6 n7 n8 n9 n10 n11 n12 n13 n14 n15 = absurd (n1 refl)
alone_else (action.Offer to) n0 n1 n2 n3 n4 n5 n6 n7 n8 n9 n10 n11 n12 n13 n14 n15 = absurd (n2 to refl)
alone_else action.Accept n0 n1 n2 n3 n4 n5 n6 n7 n8 n9 n10 n11 n12 n13 n14 n15 = absurd (n3 refl)
alone_else (action.Close to) n0 n1 n2 n3 n4 n5 n6 n7 n8 n9 n10 n11 n12 n13 n14 n15 = absurd (n4 to refl)
alone_else (action.ClosePort to) n0 n1 n2 n3 n4 n5 n6 n7 n8 n9 n10 n11 n12 n13 n14 n15 = absurd (n5 to refl)
alone_else (action.ShowLast kind) n0 n1 n2 n3 n4 n5 n6 n7 n8 n9 n10 n11 n12 n13 n14 n15 = absurd (n6 kind refl)
alone_else action.Show n0 n1 n2 n3 n4 n5 n6 n7 n8 n9 n10 n11 n12 n13 n14 n15 = absurd (n7 refl)
alone_else (action.Withdraw ticket) n0 n1 n2 n3 n4 n5 n6 n7 n8 n9 n10 n11 n12 n13 n14 n15 = absurd (n8 ticket refl)
alone_else (action.Settle ticket) n0 n1 n2 n3 n4 n5 n6 n7 n8 n9 n10 n11 n12 n13 n14 n15 = absurd (n9 ticket refl)
alone_else (action.Grab to) n0 n1 n2 n3 n4 n5 n6 n7 n8 n9 n10 n11 n12 n13 n14 n15 = absurd (n10 to refl)
alone_else action.Start n0 n1 n2 n3 n4 n5 n6 n7 n8 n9 n10 n11 n12 n13 n14 n15 = absurd (n11 refl)
alone_else action.End n0 n1 n2 n3 n4 n5 n6 n7 n8 n9 n10 n11 n12 n13 n14 n15 = absurd (n12 refl)
alone_else (action.SetConst name op) n0 n1 n2 n3 n4 n5 n6 n7 n8 n9 n10 n11 n12 n13 n14 n15 = absurd (n13 name op refl)
alone_else (action.SetOwn name) n0 n1 n2 n3 n4 n5 n6 n7 n8 n9 n10 n11 n12 n13 n14 n15 = absurd (n14 name refl)
alone_else (action.GetConst name) n0 n1 n2 n3 n4 n5 n6 n7 n8 n9 n10 n11 n12 n13 n14 n15 = absurd (n15 name refl)

-- an action that is none of those that a ractor makes by itself
pub not_alone : (a : Action) → ((new : NewObject) → a ≡ action.Alloc new → ⊥) → ((op : Operand) → a ≡ action.Pack op → ⊥) → ((op : Operand) → a ≡ action.Detach op → ⊥) → (a ≡ action.PutBack → ⊥) → ((op : Operand) → a ≡ action.Plan op → ⊥) → (a ≡ action.Promote → ⊥) → (a ≡ action.Open → ⊥) → ((op : Operand) → a ≡ action.Freeze op → ⊥) → ((op : Operand) (byte : ℕ) → a ≡ action.Append op byte → ⊥) → ((op : Operand) → a ≡ action.Clear op → ⊥) → ((op : Operand) (x : Operand) → a ≡ action.Push op x → ⊥) → ((op : Operand) (i : ℕ) (x : Operand) → a ≡ action.Write op i x → ⊥) → ((op : Operand) (i : ℕ) → a ≡ action.Take op i → ⊥) → ((op : Operand) (name : Sym) (x : Operand) → a ≡ action.SetField op name x → ⊥) → ((op : Operand) (part : RaisedPart) (x : Operand) → a ≡ action.SetRaised op part x → ⊥) → ((op : Operand) (key : Operand) (x : Operand) → a ≡ action.SetPair op key x → ⊥) → ((op : Operand) (i : ℕ) → a ≡ action.DeletePair op i → ⊥) → ((op : Operand) (l : Label) → a ≡ action.Read op l → ⊥) → IsByItself a → ⊥
not_alone (action.Alloc new) n0 n1 n2 n3 n4 n5 n6 n7 n8 n9 n10 n11 n12 n13 n14 n15 n16 n17 alone = n0 new refl
not_alone (action.Pack op) n0 n1 n2 n3 n4 n5 n6 n7 n8 n9 n10 n11 n12 n13 n14 n15 n16 n17 alone = n1 op refl
not_alone (action.Detach op) n0 n1 n2 n3 n4 n5 n6 n7 n8 n9 n10 n11 n12 n13 n14 n15 n16 n17 alone = n2 op refl
not_alone action.PutBack n0 n1 n2 n3 n4 n5 n6 n7 n8 n9 n10 n11 n12 n13 n14 n15 n16 n17 alone = n3 refl
not_alone (action.Plan op) n0 n1 n2 n3 n4 n5 n6 n7 n8 n9 n10 n11 n12 n13 n14 n15 n16 n17 alone = n4 op refl
not_alone action.Promote n0 n1 n2 n3 n4 n5 n6 n7 n8 n9 n10 n11 n12 n13 n14 n15 n16 n17 alone = n5 refl
not_alone action.Open n0 n1 n2 n3 n4 n5 n6 n7 n8 n9 n10 n11 n12 n13 n14 n15 n16 n17 alone = n6 refl
not_alone (action.Freeze op) n0 n1 n2 n3 n4 n5 n6 n7 n8 n9 n10 n11 n12 n13 n14 n15 n16 n17 alone = n7 op refl
not_alone (action.Append op byte) n0 n1 n2 n3 n4 n5 n6 n7 n8 n9 n10 n11 n12 n13 n14 n15 n16 n17 alone = n8 op byte refl
not_alone (action.Clear op) n0 n1 n2 n3 n4 n5 n6 n7 n8 n9 n10 n11 n12 n13 n14 n15 n16 n17 alone = n9 op refl
not_alone (action.Push op x) n0 n1 n2 n3 n4 n5 n6 n7 n8 n9 n10 n11 n12 n13 n14 n15 n16 n17 alone = n10 op x refl
not_alone (action.Write op i x) n0 n1 n2 n3 n4 n5 n6 n7 n8 n9 n10 n11 n12 n13 n14 n15 n16 n17 alone = n11 op i x refl
not_alone (action.Take op i) n0 n1 n2 n3 n4 n5 n6 n7 n8 n9 n10 n11 n12 n13 n14 n15 n16 n17 alone = n12 op i refl
not_alone (action.SetField op name x) n0 n1 n2 n3 n4 n5 n6 n7 n8 n9 n10 n11 n12 n13 n14 n15 n16 n17 alone = n13 op name x refl
not_alone (action.SetRaised op part x) n0 n1 n2 n3 n4 n5 n6 n7 n8 n9 n10 n11 n12 n13 n14 n15 n16 n17 alone = n14 op part x refl
not_alone (action.SetPair op key x) n0 n1 n2 n3 n4 n5 n6 n7 n8 n9 n10 n11 n12 n13 n14 n15 n16 n17 alone = n15 op key x refl
not_alone (action.DeletePair op i) n0 n1 n2 n3 n4 n5 n6 n7 n8 n9 n10 n11 n12 n13 n14 n15 n16 n17 alone = n16 op i refl
not_alone (action.Read op l) n0 n1 n2 n3 n4 n5 n6 n7 n8 n9 n10 n11 n12 n13 n14 n15 n16 n17 alone = n17 op l refl
not_alone action.Publish n0 n1 n2 n3 n4 n5 n6 n7 n8 n9 n10 n11 n12 n13 n14 n15 n16 n17 alone = alone
not_alone action.Discard n0 n1 n2 n3 n4 n5 n6 n7 n8 n9 n10 n11 n12 n13 n14 n15 n16 n17 alone = alone
not_alone (action.Offer to) n0 n1 n2 n3 n4 n5 n6 n7 n8 n9 n10 n11 n12 n13 n14 n15 n16 n17 alone = alone
not_alone action.Accept n0 n1 n2 n3 n4 n5 n6 n7 n8 n9 n10 n11 n12 n13 n14 n15 n16 n17 alone = alone
not_alone (action.Close to) n0 n1 n2 n3 n4 n5 n6 n7 n8 n9 n10 n11 n12 n13 n14 n15 n16 n17 alone = alone
not_alone (action.ClosePort to) n0 n1 n2 n3 n4 n5 n6 n7 n8 n9 n10 n11 n12 n13 n14 n15 n16 n17 alone = alone
not_alone (action.ShowLast kind) n0 n1 n2 n3 n4 n5 n6 n7 n8 n9 n10 n11 n12 n13 n14 n15 n16 n17 alone = alone
not_alone action.Show n0 n1 n2 n3 n4 n5 n6 n7 n8 n9 n10 n11 n12 n13 n14 n15 n16 n17 alone = alone
not_alone (action.Withdraw ticket) n0 n1 n2 n3 n4 n5 n6 n7 n8 n9 n10 n11 n12 n13 n14 n15 n16 n17 alone = alone
not_alone (action.Settle ticket) n0 n1 n2 n3 n4 n5 n6 n7 n8 n9 n10 n11 n12 n13 n14 n15 n16 n17 alone = alone
not_alone (action.Grab to) n0 n1 n2 n3 n4 n5 n6 n7 n8 n9 n10 n11 n12 n13 n14 n15 n16 n17 alone = alone
not_alone action.Start n0 n1 n2 n3 n4 n5 n6 n7 n8 n9 n10 n11 n12 n13 n14 n15 n16 n17 alone = alone
not_alone action.End n0 n1 n2 n3 n4 n5 n6 n7 n8 n9 n10 n11 n12 n13 n14 n15 n16 n17 alone = alone
not_alone (action.SetConst name op) n0 n1 n2 n3 n4 n5 n6 n7 n8 n9 n10 n11 n12 n13 n14 n15 n16 n17 alone = alone
not_alone (action.SetOwn name) n0 n1 n2 n3 n4 n5 n6 n7 n8 n9 n10 n11 n12 n13 n14 n15 n16 n17 alone = alone
not_alone (action.GetConst name) n0 n1 n2 n3 n4 n5 n6 n7 n8 n9 n10 n11 n12 n13 n14 n15 n16 n17 alone = alone
