-- Worked rows, computed from the definitions.
use Rattle.std.proofs.Common.{refl}
use Rattle.std.specs.Fmt.{digits}
use Rattle.rr_text.specs.Quoted.{quoted}
use Rattle.rr_text.specs.Joining.{look_joined, joint, joined}
use Rattle.rr_text.specs.Rows.{AllRows}

pub rows_compute : AllRows
unfolding digits quoted look_joined joint joined
rows_compute = record {
  itself = refl;
  pairs = refl;
  lined = refl;
  lined_itself = refl;
  lined_hash = refl;
  spoken_text = refl;
  too_deep = refl;
  not_too_deep = refl;
  shell_met = refl;
  deep_before_shell = refl;
  escapes = refl;
  raised = refl;
  raised_spoken = refl;
  raised_bare = refl;
  plain_object = refl;
  immediates = refl;
  hash_itself = refl;
  joined_alike = refl;
  joined_bare = refl;
  joined_itself = refl;
  joined_hash = refl;
  joined_too_deep = refl;
  joined_hash_too_deep = refl;
  joined_shell = refl;
  asked = refl;
  asked_lined = refl;
  asked_inside = refl;
  asked_joined = refl;
  asked_too_deep = refl;
  answered_lined = refl;
  answered_no_text = refl;
}
