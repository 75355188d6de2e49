-- Causes that follow from others license what these do.
use Rattle.std.proofs.Common.{ℕ}
use Rattle.lt_terms.specs.declared.Extent.{Extent}
use Rattle.lt_words.specs.Reply as model
use Rattle.lt_machine.specs.Outside.{Causes, caused_by}

pub caused_more : (c d : Causes) → (c.feed → d.feed) → (c.disk → d.disk) → (c.out → d.out) → ((need room : ℕ) → c.full need room → d.full need room) → ((e : Extent) → c.hurt e → d.hurt e)
    → ((n : ℕ) → c.mismatch n → d.mismatch n) → (r : model.Refusal) → caused_by c r → caused_by d r
caused_more c d feed disk out full hurt mismatch (model.store_full need room) h = full need room h
caused_more c d feed disk out full hurt mismatch model.feed_fault h = feed h
caused_more c d feed disk out full hurt mismatch model.disk_fault h = disk h
caused_more c d feed disk out full hurt mismatch (model.damaged place len) h = hurt (record { place = place; length = len }) h
caused_more c d feed disk out full hurt mismatch model.out_fault h = out h
caused_more c d feed disk out full hurt mismatch (model.feed_mismatch n) h = mismatch n h
caused_more c d feed disk out full hurt mismatch model.out_of_memory h = tt
caused_more c d feed disk out full hurt mismatch model.needs_reopen h = absurd h
caused_more c d feed disk out full hurt mismatch model.worn h = absurd h
caused_more c d feed disk out full hurt mismatch model.too_many_parts h = absurd h
caused_more c d feed disk out full hurt mismatch model.too_many_deltas h = absurd h
caused_more c d feed disk out full hurt mismatch model.job_open h = absurd h
caused_more c d feed disk out full hurt mismatch model.no_job h = absurd h
caused_more c d feed disk out full hurt mismatch model.not_done h = absurd h
caused_more c d feed disk out full hurt mismatch (model.no_such_table x) h = absurd h
caused_more c d feed disk out full hurt mismatch (model.no_such_version x) h = absurd h
caused_more c d feed disk out full hurt mismatch (model.version_retired x) h = absurd h
caused_more c d feed disk out full hurt mismatch (model.is_last_version x) h = absurd h
caused_more c d feed disk out full hurt mismatch (model.bad_schema x) h = absurd h
caused_more c d feed disk out full hurt mismatch (model.no_stream x) h = absurd h
caused_more c d feed disk out full hurt mismatch (model.no_partition x) h = absurd h
caused_more c d feed disk out full hurt mismatch (model.no_such_delta x) h = absurd h
caused_more c d feed disk out full hurt mismatch (model.bad_column x) h = absurd h
caused_more c d feed disk out full hurt mismatch (model.wrong_literal x) h = absurd h
caused_more c d feed disk out full hurt mismatch (model.key_too_long x) h = absurd h
caused_more c d feed disk out full hurt mismatch (model.too_old x) h = absurd h
caused_more c d feed disk out full hurt mismatch (model.above_durable x) h = absurd h
caused_more c d feed disk out full hurt mismatch (model.below_minimum x) h = absurd h
caused_more c d feed disk out full hurt mismatch (model.at_edge x) h = absurd h
caused_more c d feed disk out full hurt mismatch (model.not_safe x y) h = absurd h
