use Rattle.rr_space.proofs.KeyCopies.{key_is_named, text_pair_is_added, objects_arrive, copies_are_named}
use Rattle.rr_space.proofs.KeyObjects.{other_is_written, value_is_written, pair_is_added, pair_is_taken, object_is_frozen, object_is_made, object_is_forwarded, object_is_emptied, object_is_put_back}
use Rattle.rr_space.proofs.laws.shown_by_keys.Goals as goal

pub returns : goal.returns
returns c = record {
  key = key_is_named;
  written = other_is_written;
  value = value_is_written;
  pair = pair_is_added;
  text_pair = text_pair_is_added;
  taken = pair_is_taken;
  frozen = object_is_frozen;
  made = object_is_made;
  arrive = objects_arrive;
  forwarded = object_is_forwarded;
  emptied = object_is_emptied;
  put_back = object_is_put_back;
  copied = copies_are_named;
}
