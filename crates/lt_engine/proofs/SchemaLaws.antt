-- What a schema and a retirement leave.
use Rattle.std.proofs.Common.{List, ap, refl, sym, ℕ, ◌+◌, ◌∙◌, ◌≡◌}
use Rattle.std.specs.Prelude.{None, Ok, ◌==◌, ◌^◌, ◌-◌, false}
use Rattle.lt_tables.specs.Pump.{StreamAt}
use Rattle.lt_machine.specs.Machine.{added_text, names_version, refused, replies, with_catalogue}
use Rattle.lt_words.specs.Reply.{retire_done, schema_done}
use Rattle.lt_tables.specs.Schema.{Catalogue, IsCatalogue, retire_fault, without_version}
use Rattle.lt_tables.specs.Query.{do_retire, do_schema}
use Rattle.lt_parts.specs.declared.entry.PartEntry.{PartEntry}
use Rattle.lt_pump.specs.Pumps.{streams_of}
use Rattle.lt_reply.specs.View.{view_reply}
use Rattle.lt_reply.specs.declared.reply.Reply.{Reply}
use Rattle.lt_engine.specs.Answers.{Commits}
use Rattle.lt_engine.specs.State.{memory_of, state_of, state_with}
use Rattle.lt_engine.specs.Steps.{Done, Stays}
use Rattle.lt_engine.specs.declared.replica.Replica.{Replica}
use Rattle.lt_engine.proofs.Results.{numbers, retire_lets, some_named}

pub stays_itself : (r : Replica) → Stays r r
stays_itself r = record { state = refl; memory = refl }

pub commits_state : (old new : Replica) (cat : Catalogue) → Commits old new cat → state_of new ≡ with_catalogue (state_of old) cat
commits_state old new cat h =
    ap (λ (c : Catalogue). state_with c new.generation new.map (streams_of new.pump) (memory_of new)) h.catalogue
    ∙ ap (λ (n : ℕ). state_with cat n new.map (streams_of new.pump) (memory_of new)) h.generation
    ∙ ap (λ (es : List PartEntry). state_with cat (old.generation + 1) es (streams_of new.pump) (memory_of new)) h.map
    ∙ ap (λ (ss : List StreamAt). state_with cat (old.generation + 1) old.map ss (memory_of new)) h.streams
    ∙ ap (state_with cat (old.generation + 1) old.map (streams_of old.pump)) h.memory

pub schema_does : (old new : Replica) (t : List ℕ) (cat : Catalogue) (reply : Reply) → added_text old.catalogue t ≡ Ok cat → Commits old new cat → view_reply reply ≡ schema_done (names_version t).0 (names_version t).1 → refused (state_of old) (do_schema t) ≡ None
    → Done old new (do_schema t) reply (memory_of old)
schema_does old new t cat reply added h says free = record { free = free; does = λ f source. (cat, added, ap replies says, commits_state old new cat h); memory = h.memory }

pub retire_does : (old new : Replica) (name : List ℕ) (number v : ℕ) (reply : Reply) → (old.generation == 2 ^ 64 - 1) ≡ false → IsCatalogue old.catalogue → numbers old.catalogue name number → retire_fault old.catalogue number v ≡ None
    → Commits old new (without_version old.catalogue number v) → view_reply reply ≡ retire_done name v → Done old new (do_retire name v) reply (memory_of old)
retire_does old new name number v reply e is d f h says =
    let t = some_named old.catalogue name number d in
    record {
      free = retire_lets old.catalogue old.generation old.map (streams_of old.pump) (memory_of old) name number v e is d f;
      does = λ g source. (t.0, t.1, ap replies says, commits_state old new (without_version old.catalogue number v) h ∙ ap (λ (m : ℕ). with_catalogue (state_of old) (without_version old.catalogue m v)) (sym t.2));
      memory = h.memory;
    }
