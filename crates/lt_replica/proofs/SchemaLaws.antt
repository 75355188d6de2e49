-- What a schema and a retirement leave.
use Rattle.lt_replica.specs.Numbers.{is_worn_at, numbers_of}
use Rattle.std.proofs.Common.{List, [], ap, refl, sym, ℕ, ◌≡◌}
use Rattle.std.specs.Prelude.{None, Ok, false}
use Rattle.lt_machine.specs.Machine.{Does, added_text, names_version, refused, replies, with_catalogue}
use Rattle.lt_words.specs.Reply.{retire_done, schema_done}
use Rattle.lt_tables.specs.Schema.{Catalogue, IsCatalogue, retire_fault, without_version}
use Rattle.lt_tables.specs.Query.{do_retire, do_schema}
use Rattle.lt_pump.specs.Pumps.{streams_of}
use Rattle.lt_replica.specs.Committing.{Attempt}
use Rattle.lt_world.specs.Feed.{Feed}
use Rattle.lt_terms.specs.Log.{Change}
use Rattle.lt_steps.proofs.AboveLaws.{memory_is_above}
use Rattle.lt_steps.proofs.StayedMemory.{memory_stays}
use Rattle.lt_replica.specs.State.{memory_of, state_of}
use Rattle.lt_replica.specs.Steps.{Stays}
use Rattle.lt_replica.specs.declared.replica.Replica.{Replica}
use Rattle.lt_replica.proofs.Results.{numbers, retire_lets, some_named}

pub stays_itself : (r : Replica) → Stays r r
stays_itself r = record { state = refl; memory = refl }

unfoldable pub schema_attempt : (old : Replica) (t : List ℕ) (cat : Catalogue) → added_text old.catalogue t ≡ Ok cat → refused (state_of old) (do_schema t) ≡ None → Attempt old (do_schema t)
schema_attempt old t cat added free =
    let says = schema_done (names_version t).0 (names_version t).1 in
    let after = with_catalogue (state_of old) cat in
    let does : (f : Feed) (source : List Change) → Does f source (state_of old) (do_schema t) (replies says) after = λ f source. (cat, added, refl, refl) in
    record {
      reply = says;
      catalogue = cat;
      parts = (state_of old).durable.parts;
      memory = memory_of old;
      free = free;
      does = does;
      belongs = λ f b step. memory_stays.added f (state_of old) after (memory_of old) t (replies says) b step;
      above = λ a. memory_is_above.stays [] [] (state_of old) after (memory_of old) (memory_of old) (do_schema t) (replies says) a (does [] []) refl;
    }

unfoldable pub retire_attempt : (old : Replica) (name : List ℕ) (number v : ℕ) → is_worn_at (numbers_of old.store old.next_id) ≡ false → IsCatalogue old.catalogue → numbers old.catalogue name number → retire_fault old.catalogue number v ≡ None → Attempt old (do_retire name v)
retire_attempt old name number v e is d f =
    let t = some_named old.catalogue name number d in
    let after = with_catalogue (state_of old) (without_version old.catalogue number v) in
    let does : (f : Feed) (source : List Change) → Does f source (state_of old) (do_retire name v) (replies (retire_done name v)) after = λ g source. (t.0, t.1, refl, ap (λ (m : ℕ). with_catalogue (state_of old) (without_version old.catalogue m v)) (sym t.2)) in
    record {
      reply = retire_done name v;
      catalogue = without_version old.catalogue number v;
      parts = (state_of old).durable.parts;
      memory = memory_of old;
      free = retire_lets old.catalogue (numbers_of old.store old.next_id) old.map (streams_of old.pump) (memory_of old) name number v e is d f;
      does = does;
      belongs = λ g b step. memory_stays.retired g (state_of old) after (memory_of old) name v (replies (retire_done name v)) b step;
      above = λ a. memory_is_above.stays [] [] (state_of old) after (memory_of old) (memory_of old) (do_retire name v) (replies (retire_done name v)) a (does [] []) refl;
    }
