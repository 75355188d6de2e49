-- What a writer of rows exposes, and how its output goes on.
use Rattle.std.proofs.Common.{[], arith, refl, subst, ◌∙◌}
use Rattle.std.proofs.KnownBytes.{Appends-nil, Appends-trans}
use Rattle.lt_world.specs.Object.{FailsAt}
use Rattle.std.specs.Prelude.{Bool, List, None, false, option_map, true, ℕ, ◌++◌}
use Rattle.std.specs.Io.KnownBytes.{Appends}
use Rattle.lt_reply.specs.Rows.{row_kinds}
use Rattle.lt_schema.specs.View.{view_version}
use Rattle.lt_schema.specs.declared.version.SchemaVersion.{SchemaVersion}
use Rattle.lt_words.specs.Reply.{row_text}
use Rattle.lt_world.specs.Object.{BytesGo, BytesState}
use Rattle.lt_world.specs.RowSink.{RowSinkState}
use Rattle.lightning_cli.specs.Serving.{Failed, Unfailed}

-- What was written, with the text behind it that is not written yet.
abbrev pub rows_state : SchemaVersion → BytesState → List ℕ → RowSinkState
rows_state version out text = record { spell = row_text (row_kinds (view_version version)); told = option_map (λ held. held ++ text) out.told; rows = None; faults = out.faults }

abbrev pub FailsIf : Bool → BytesState → BytesState → Type 0
FailsIf false old new = Unfailed old new
FailsIf true old new = Failed old new

-- Some text was written; and whether the last call failed.
pub record LeadsOut (old new : BytesState) (fault : Bool) : Type 0 where
  pub more : List ℕ
  pub appends : Appends old.told new.told more
  pub fails : FailsIf fault old new
  pub goes : BytesGo old new

-- ---- the laws of a row sink

fails_then : (a b c : BytesState) (fault : Bool) → Unfailed a b → FailsIf fault b c → FailsIf fault a c
fails_then a b c true h k = record { rose = omega (arith, h.faults, k.rose); stops = subst (λ at. FailsAt c.told at c.failed_at) h.failed_at k.stops }
fails_then a b c false h k = record { faults = k.faults ∙ h.faults; failed_at = k.failed_at ∙ h.failed_at }

pub leads_nowhere : (a : BytesState) → LeadsOut a a false
leads_nowhere a = record { more = []; appends = Appends-nil a.told; fails = record { faults = refl; failed_at = refl }; goes = record { stays = (λ h. h, λ h. h); faults = omega arith } }

pub leads_then : (a b c : BytesState) (fault : Bool) → LeadsOut a b false → LeadsOut b c fault → LeadsOut a c fault
leads_then a b c fault h k = record {
  more = h.more ++ k.more;
  appends = Appends-trans a.told b.told c.told h.more k.more h.appends k.appends;
  fails = fails_then a b c fault h.fails k.fails;
  goes = record { stays = (λ s. k.goes.stays.0 (h.goes.stays.0 s), λ s. h.goes.stays.1 (k.goes.stays.1 s)); faults = omega (arith, h.goes.faults, k.goes.faults) };
}
