use Rattle.std.proofs.Common.{ap, is_lt, sym, ◌∙◌}
use Rattle.lt_terms.specs.Key.{below}
use Rattle.lt_tables.specs.Version.{clip}
use Rattle.lt_memdelta.specs.Stamps.{rows_of}
use Rattle.lt_memdelta.proofs.Clips.{between, from-on, low-first, low-itself, nothing, some-key}
use Rattle.lt_memdelta.proofs.keys.keys_in.Goals as goal

pub range-requires-in-Some : goal.range-requires-in-Some
range-requires-in-Some c = low-itself c.args.range.now.low

pub range-requires-in-Some-2 : goal.range-requires-in-Some-2
range-requires-in-Some-2 c =
    let low = c.args.range.now.low in
    low-first low c.in-Some-2.high (ap (λ h. below h low) (sym (some-key c.args.range.now.high c.in-Some.high c.in-Some-2.high c.in-Some.is c.in-Some-2.is))
    ∙ ap is_lt (sym c.cmp.ensures) ∙ sym c.is_lt.ensures ∙ c.if-is_lt.false)

pub returns-in-None : goal.returns-in-None
returns-in-None c =
    let low = c.args.range.now.low in
    let es = c.args.keys.now.entries in
    ap rows_of (c.range.ensures.between tt) ∙ from-on low es ∙ ap (λ h. clip (record { low = low; high = h }) (rows_of es)) (sym c.in-None.is)

pub returns-in-Some : goal.returns-in-Some
returns-in-Some c =
    let low = c.args.range.now.low in
    let es = c.args.keys.now.entries in
    ap rows_of (c.range-in-Some.ensures.between tt)
    ∙ nothing low c.in-Some.high es (ap is_lt (sym c.cmp.ensures) ∙ sym c.is_lt.ensures ∙ c.if-is_lt.true)
    ∙ ap (λ h. clip (record { low = low; high = h }) (rows_of es)) (sym c.in-Some.is)

pub returns-in-Some-2 : goal.returns-in-Some-2
returns-in-Some-2 c =
    let low = c.args.range.now.low in
    let es = c.args.keys.now.entries in
    ap rows_of (c.range-in-Some-2.ensures.between tt) ∙ between low c.in-Some-2.high es ∙ ap (λ h. clip (record { low = low; high = h }) (rows_of es)) (sym c.in-Some-2.is)
