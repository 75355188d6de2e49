use Rattle.std.proofs.Common.{◌≡◌, ◌++◌, flat_map, length, take}
use Rattle.lt_core.specs.View.{view_settings}
use Rattle.lt_codecs.specs.Codec.{u16, ◌then◌}
use Rattle.lt_codecs.specs.LogCodec.{log_value}
use Rattle.lt_records.proofs.writing.value.+put.Given as goal

abbrev pub invariant-put_settings-loop-number : goal.invariant-put_settings-loop-number
invariant-put_settings-loop-number l = l.to ≡ l.fn.to ++ (u16.spell (length l.settings) ++ flat_map (u16 then log_value).spell (view_settings (take l.number-index l.number-items)))
