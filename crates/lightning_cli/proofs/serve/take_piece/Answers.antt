use Rattle.std.proofs.Common.{◌≡◌, ◌+◌, ◌<◌, ◌≤◌, ◌^◌, ap, [], take, drop, arith, refl, length, inl, inr, rules, length-drop, ◌-◌}
use Rattle.std.proofs.lemmas.List.{length-take-le}
use Rattle.lt_pump.proofs.FeedLaws.{goes_itself}
use Rattle.lightning_cli.proofs.EndLaws.{finish_status, script_failed, script_kept}
use Rattle.lightning_cli.proofs.OutLaws.{cut_bytes, finish_as, out_finishes, script_fault_is}
use Rattle.lightning_cli.proofs.ServeLaws.{ahead_is, fault_served, none_left, read_on}
use Rattle.lightning_cli.proofs.serve.take_piece.Goals as goal

-- ---- the script fails

pub returns-in-Err-clause-serves : goal.returns-in-Err-clause-serves
returns-in-Err-clause-serves g c m old s =
    let e = c.in-Err.ensures in
    fault_served m old _ _ _ _ _ _ c.args.count c.args.server.now c.finish.result c.requires.short c.requires.written e.cause.failed (record { stays = c.read.ensures.stays; faults = c.read.ensures.cause.later }) e.bytes s
    (finish_as _ _ _ _ 3 _ script_fault_is c.finish.ensures.finishes) c.finish.ensures.goes

pub returns-in-Err-clause-script_over : goal.returns-in-Err-clause-script_over
returns-in-Err-clause-script_over g c = script_failed _ _ _ (finish_status _ _ _ 3 c.finish.result c.finish.ensures.finishes) c.in-Err.ensures.cause.failed c.in-Err.ensures.first_fault

pub returns-in-Err-clause-out_over : goal.returns-in-Err-clause-out_over
returns-in-Err-clause-out_over g c = out_finishes _ _ _ 3 _ (λ e. absurd (omega (arith, e))) c.finish.ensures.finishes

pub returns-in-Err-clause-too_long : goal.returns-in-Err-clause-too_long
returns-in-Err-clause-too_long g c e = elim (finish_status _ _ _ 3 c.finish.result c.finish.ensures.finishes) [
  | inl x ↦ absurd (omega (arith, x, e))
  | inr x ↦ absurd (omega (arith, x, e))
]

pub returns-in-Err-clause-statuses : goal.returns-in-Err-clause-statuses
returns-in-Err-clause-statuses g c = elim (finish_status _ _ _ 3 c.finish.result c.finish.ensures.finishes) [
  | inl x ↦ inr (inl x)
  | inr x ↦ inr (inr (inl x))
]

pub returns-in-Err-clause-goes : goal.returns-in-Err-clause-goes
returns-in-Err-clause-goes g c = (refl, goes_itself _, record { stays = c.read.ensures.stays; faults = c.read.ensures.cause.later }, c.finish.ensures.goes)

-- ---- it is read to its end

pub returns-then-n-eq0-clause-serves : goal.returns-then-n-eq0-clause-serves
returns-then-n-eq0-clause-serves g c m old s =
    let e = c.in-Ok.ensures in
    let t = read_on m old _ _ _ _ _ c.args.count (take c.in-Ok.n c.read.new.buf) c.args.server.now c.read.ensures.stays e.bytes.0 e.cause.kept s in
    let none = ahead_is (take c.in-Ok.n c.read.new.buf) [] (ap (λ k. take k c.read.new.buf) c.if-n-eq0.true) t in
    c.end.ensures.served m old _ c.args.count (none_left m old _ c.args.count [] c.args.server.now none (e.bytes.1 c.if-n-eq0.true (search rules))) c.requires.short none

pub returns-then-n-eq0-clause-script_over : goal.returns-then-n-eq0-clause-script_over
returns-then-n-eq0-clause-script_over g c = script_kept _ _ _ (λ e. elim c.end.ensures.statuses [
  | inl x ↦ absurd (omega (arith, x, e))
  | inr (inl x) ↦ absurd (omega (arith, x, e))
  | inr (inr x) ↦ absurd (omega (arith, x, e))
]) (record { faults = c.in-Ok.ensures.cause.kept; failed_at = c.in-Ok.ensures.first_fault })

pub returns-then-n-eq0-clause-too_long : goal.returns-then-n-eq0-clause-too_long
returns-then-n-eq0-clause-too_long g c e = elim c.end.ensures.statuses [
  | inl x ↦ absurd (omega (arith, x, e))
  | inr (inl x) ↦ absurd (omega (arith, x, e))
  | inr (inr x) ↦ absurd (omega (arith, x, e))
]

pub returns-then-n-eq0-clause-statuses : goal.returns-then-n-eq0-clause-statuses
returns-then-n-eq0-clause-statuses g c = elim c.end.ensures.statuses [
  | inl x ↦ inl x
  | inr (inl x) ↦ inr (inr (inl x))
  | inr (inr x) ↦ inr (inr (inr (inr x)))
]

-- ---- it is too long

pub returns-then-n-room-clause-serves : goal.returns-then-n-room-clause-serves
returns-then-n-room-clause-serves g c m old s =
    let e = c.in-Ok.ensures in
    let buf = c.read.new.buf in
    let room = 2 ^ 32 - c.args.count in
    let within : room ≤ c.in-Ok.n = omega (arith, c.if-n-room.true) in
    let fits : room ≤ length buf = omega (arith, within, e.bound) in
    let more = drop room (take c.in-Ok.n buf) in
    let full : c.args.count + length (take room buf) ≡ 2 ^ 32 = omega (arith, c.requires.short, length-take-le room buf fits) in
    let over : 0 < length more = omega (arith, c.if-n-room.true, length-drop room (take c.in-Ok.n buf), length-take-le c.in-Ok.n buf e.bound) in
    let t = read_on m old _ _ _ _ _ c.args.count (take c.in-Ok.n buf) c.args.server.now c.read.ensures.stays e.bytes.0 e.cause.kept s in
    c.cut.ensures.served m old _ c.args.count more full over (ahead_is (take c.in-Ok.n buf) _ (cut_bytes c.in-Ok.n room buf within) t)

pub returns-then-n-room-clause-script_over : goal.returns-then-n-room-clause-script_over
returns-then-n-room-clause-script_over g c = script_kept _ _ _ (λ e. elim c.cut.ensures.statuses [
  | inl x ↦ absurd (omega (arith, x, e))
  | inr (inl x) ↦ absurd (omega (arith, x, e))
  | inr (inr x) ↦ absurd (omega (arith, x, e))
]) (record { faults = c.in-Ok.ensures.cause.kept; failed_at = c.in-Ok.ensures.first_fault })

pub returns-then-n-room-clause-statuses : goal.returns-then-n-room-clause-statuses
returns-then-n-room-clause-statuses g c = elim c.cut.ensures.statuses [
  | inl x ↦ inr (inr (inl x))
  | inr (inl x) ↦ inr (inr (inr (inl x)))
  | inr (inr x) ↦ inr (inr (inr (inr x)))
]

-- ---- a piece is taken

pub returns-clause-serves : goal.returns-clause-serves
returns-clause-serves g c m old s =
    let e = c.in-Ok.ensures in
    let t = read_on m old _ _ _ _ _ c.args.count (take c.in-Ok.n c.read.new.buf) c.args.server.now c.read.ensures.stays e.bytes.0 e.cause.kept s in
    c.digest.ensures.serves m old _ c.args.count (omega (arith, c.requires.short, c.if-n-room.false, length-take-le c.in-Ok.n c.read.new.buf e.bound)) t
