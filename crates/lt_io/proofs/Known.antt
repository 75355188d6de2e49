-- Known bytes over calls that were interrupted.
use Rattle.std.proofs.Common.{List, None, Option, Some, [], ap, append-nil, sym, ℕ, ◌++◌, ◌∙◌}
use Rattle.std.proofs.KnownBytes.{Keeps-refl, Keeps-trans}
use Rattle.std.specs.Io.KnownBytes.{Appends, Consumes, Keeps}

pub keeps_itself : (a : Option (List ℕ)) → Keeps a a
keeps_itself = Keeps-refl

pub kept_twice : (a b c : Option (List ℕ)) → Keeps a b → Keeps b c → Keeps a c
kept_twice = Keeps-trans

pub kept_then_consumed : (a b c : Option (List ℕ)) (bs : List ℕ) → Keeps a b → Consumes b c bs → Consumes a c bs
kept_then_consumed None b c bs p q = tt
kept_then_consumed (Some x) None c bs p q = absurd p
kept_then_consumed (Some x) (Some y) None bs p q = absurd q
kept_then_consumed (Some x) (Some y) (Some z) bs p q = sym p ∙ q

pub kept_then_appended : (a b c : Option (List ℕ)) (bs : List ℕ) → Keeps a b → Appends b c bs → Appends a c bs
kept_then_appended None b c bs p q = tt
kept_then_appended (Some x) None c bs p q = absurd p
kept_then_appended (Some x) (Some y) None bs p q = absurd q
kept_then_appended (Some x) (Some y) (Some z) bs p q = q ∙ ap (λ l. l ++ bs) p

-- nothing was taken
pub none_appended : (a b c : Option (List ℕ)) → Keeps a b → Appends b c [] → Keeps a c
none_appended None b c p q = tt
none_appended (Some x) None c p q = absurd p
none_appended (Some x) (Some y) None p q = absurd q
none_appended (Some x) (Some y) (Some z) p q = q ∙ append-nil y ∙ p
