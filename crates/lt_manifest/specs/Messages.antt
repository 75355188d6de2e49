-- What the refusals print.
use Rattle.std.specs.Prelude.{List, codes, ℕ}
use Rattle.lt_core.specs.Messages.{out_of_memory}
use Rattle.lt_manifest.specs.declared.refusal.ReadRefusal.{ReadRefusal}
use Rattle.lt_manifest.specs.declared.refusal.ReadRefusal.TheVariants as refusals

abbrev pub read_message : ReadRefusal → List ℕ
read_message refusals.NotAManifest = codes "no manifest"
read_message refusals.Memory = out_of_memory
