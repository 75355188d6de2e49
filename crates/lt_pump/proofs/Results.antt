-- Facts of a result in one of its cases.
use Rattle.std.specs.Prelude.{Err, Ok, OnErr, OnOk, Result}

pub on_ok : {T E : Type 0} (P Q : Type 0) (r : Result T E) → OnOk r P → (P → Q) → OnOk r Q
on_ok P Q (Ok x) p k = k p
on_ok P Q (Err e) p k = tt

pub on_both : {T E : Type 0} (P Q R : Type 0) (r : Result T E) → OnOk r P → OnOk r Q → (P → Q → R) → OnOk r R
on_both P Q R (Ok x) p q k = k p q
on_both P Q R (Err e) p q k = tt

pub on_any : {T E : Type 0} (P : Type 0) (r : Result T E) → P → OnOk r P
on_any P (Ok x) p = p
on_any P (Err e) p = tt

pub on_err : {T E : Type 0} (P Q : Type 0) (r : Result T E) → OnErr r P → (P → Q) → OnErr r Q
on_err P Q (Ok x) p k = tt
on_err P Q (Err e) p k = k p

pub on_any_err : {T E : Type 0} (P : Type 0) (r : Result T E) → P → OnErr r P
on_any_err P (Ok x) p = tt
on_any_err P (Err e) p = p
