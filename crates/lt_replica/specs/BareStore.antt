-- The program over a bare store: deltas, restart points and a minimum above 0 are planned, and a store that has any of them is not opened yet.
use Rattle.std.specs.Prelude.{IfSome, IsTrue, List, Option, [], ℕ, ◌≡◌, ◌⊎◌}
use Rattle.std.specs.List.{AllByRecursion}
use Rattle.lt_terms.specs.declared.Extent.{Extent}
use Rattle.lt_terms.specs.declared.Root.{Root}
use Rattle.lt_world.specs.Disk.{bytes_in}
use Rattle.lt_world.specs.Slots.{CountsAsRoot}
use Rattle.lt_words.specs.Lines.{line_read}
use Rattle.lt_words.specs.Reply.{Refusal, damaged}
use Rattle.lt_tables.specs.Query.{Command}
use Rattle.lt_storage.specs.Store.{IsManifest, Manifest, root_extent}
use Rattle.lt_machine.specs.Machine.{is_reopen}
use Rattle.lt_machine.specs.OverStore.{is_store_status, on_store}
use Rattle.lt_machine.specs.Program.{Program}
use Rattle.lt_machine.specs.Run.{StartFault, Words, no_words_known, start_damaged, words_of, word_gen, word_init, word_run}
use Rattle.lt_machine.specs.Step.{Base}

-- no delta stands in the store, no restart point is kept, and its minimum is 0
pub record IsBare (m : Manifest) : Type 0 where
  pub minimum : m.minimum ≡ 0
  pub points : AllByRecursion (λ s. s.points ≡ []) m.streams
  pub deltas : m.deltas ≡ []

-- the manifest that counts stands there, and its store is not bare
pub record IsLadenAt (image : List ℕ) (e : Extent) : Type 0 where
  pub root : Root
  pub manifest : Manifest
  pub counts : CountsAsRoot image root
  pub reads : IsManifest manifest (bytes_in image (root_extent root))
  pub laden : IsBare manifest → ⊥
  pub named : e ≡ root_extent root

-- why a store is not opened that is whole: it is not bare; its manifest is named as damaged
abbrev pub IsLaden : Option (List ℕ) → StartFault → Type 0
IsLaden told (start_damaged place len) = IfSome told (λ image. IsLadenAt image (record { place = place; length = len }))
IsLaden told e = ⊥

-- the same at a reopening
abbrev pub IsLadenAgain : Option (List ℕ) → Command → Refusal → Type 0
IsLadenAgain told c (damaged place len) = IsTrue (is_reopen c) × IfSome told (λ image. IsLadenAt image (record { place = place; length = len }))
IsLadenAgain told c r = ⊥

-- It stands on a store. A start and a reopening refuse a store that is not bare.
abbrev pub on_bare_store : Base
on_bare_store = record {
  sound = on_store.sound;
  opens = on_store.opens;
  stops = λ image told n m e. on_store.stops image told n m e ⊎ IsLaden image e;
  cause = on_store.cause;
  any_cause = λ w w' x c r. on_store.any_cause w w' x c r ⊎ IsLadenAgain w'.disk.told c r;
  rests = on_store.rests;
  has = on_store.has;
  leaves = on_store.leaves;
  seen = on_store.seen;
}

-- the words that make a store, and the one that runs a script over it; to generate a load is planned
abbrev pub without_gen : Words → Words
without_gen (word_init most) = word_init most
without_gen word_run = word_run
without_gen (word_gen k) = no_words_known
without_gen no_words_known = no_words_known

-- The program over a bare store.
abbrev pub over_bare_store : Program
over_bare_store = record { base = on_bare_store; words = λ ws. without_gen (words_of ws); reads = line_read; ends_with = is_store_status }
