use Rattle.std.proofs.Common.{ap₂, arith, inl, inr, ◌∙◌}
use Rattle.lt_tables.specs.Schema.{IsCatalogue, table_numbered}
use Rattle.lt_schema.specs.Limits.{with_numbers}
use Rattle.lt_schema.specs.View.{view_columns, view_version}
use Rattle.lt_physical.proofs.FewVersions.{few, few_versions}
use Rattle.lt_physical.proofs.Numbers.{all_versions, one_version}
use Rattle.lt_physical.proofs.layouts.column_numbers.Goals as goal

pub loop-version-preserved : goal.loop-version-preserved
loop-version-preserved c =
    let i = c.loop-version.invariant in
    record {
      from = omega (arith, i.from);
      numbers = c.in_ok-add_numbers-in-Some.ensures ∙ ap₂ (λ ns cs. with_numbers ns (view_columns cs)) i.numbers c.as_slice.ensures
          ∙ one_version (table_numbered c.args.cat.now c.args.number) c.loop-version.version (view_version c.in-Some.version.now) i.from c.in-Some.ensures.version;
      lawful = inr c.get.ensures.lawful;
    }

pub returns : goal.returns
returns c =
    let i = c.loop-version.invariant in
    let cat = c.args.cat.now in
    let lawful : IsCatalogue cat = elim i.lawful [
      | inl first ↦ absurd (omega (arith, first, c.loop-version-test.false))
      | inr h ↦ h
    ] in
    i.numbers ∙ all_versions (table_numbered cat c.args.number) c.loop-version.version (λ t e. omega (arith, few_versions cat c.args.number t (few cat lawful) e, c.loop-version-test.false))
