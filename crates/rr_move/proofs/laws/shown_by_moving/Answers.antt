use Rattle.rr_space.proofs.Changes.{emptied_open}
use Rattle.rr_space.proofs.Preserving.{putting_back_keeps}
use Rattle.rr_move.proofs.Shells.{moved_is_shell, taking_out_is_move}
use Rattle.rr_move.proofs.Undone.{putting_back_undoes}
use Rattle.rr_move.proofs.laws.shown_by_moving.Goals as goal

pub returns : goal.returns
returns c = record {
  kept = λ v d was now new. putting_back_keeps d.home.slots v d.message was now new;
  away = λ d was now. emptied_open d.home.slots was now;
  shell = moved_is_shell;
  moved = taking_out_is_move;
  undone = putting_back_undoes;
}
