-- Reading keys step by step.
use Rattle.std.proofs.Common.{◌≡◌, ◌∙◌, sym, refl, ap, List, [], ◌∷◌, ◌++◌, ℕ, ◌+◌, ◌<◌, ◌≤◌, Option, Some, None, false, length, drop, get_or, cond, ltb, le-ltb, append_assoc, append-nil, arith}
use Rattle.std.proofs.lemmas.List.{drop_all, drop_more, map-append}
use Rattle.lt_terms.specs.declared.KeyKind.{KeyKind}
use Rattle.lt_terms.specs.declared.KeyKind.TheVariants as key_kind
use Rattle.lt_terms.specs.Key as model
use Rattle.lt_codecs.specs.Codec.{u8, ◌>>=◌}
use Rattle.lt_codecs.proofs.Codecs.{guard_none}
use Rattle.lt_core.specs.declared.key.KeyPart.{KeyPart}
use Rattle.lt_core.specs.View.{view_part, view_parts}
use Rattle.lt_core.specs.KeyCodec.{key_part, read_parts, with_front}

-- ---- a byte

pub u8_some : (bytes : List ℕ) (b : ℕ) (rest : List ℕ) → u8.read bytes ≡ Some (b, rest) → bytes ≡ b ∷ rest
unfolding u8
u8_some [] b rest e = absurd cc
u8_some (c ∷ bytes) b rest e =
    let g = guard_none (ltb (length (c ∷ bytes)) 1) (c, bytes) (b, rest) e in
    ap (λ (p : ℕ × List ℕ). p.0 ∷ p.1) g.1

abbrev byte : ℕ × List ℕ → Option (ℕ × List ℕ)
byte b = Some b

pub u8_none : (bytes : List ℕ) → u8.read bytes ≡ None → bytes ≡ []
unfolding u8
u8_none [] e = refl
u8_none (c ∷ bytes) e =
    let long : ltb (length (c ∷ bytes)) 1 ≡ false = le-ltb (length (c ∷ bytes)) 1 (omega arith) in
    let there : byte (c, bytes) ≡ None = ap (λ t. cond t None (byte (c, bytes))) (sym long) ∙ e in
    absurd cc

-- ---- a text, byte by byte

pub text_more : (text : List ℕ) (b : ℕ) (now next all : Option (List ℕ × List ℕ)) → with_front text now ≡ all → now ≡ with_front (b ∷ []) next → with_front (text ++ b ∷ []) next ≡ all
text_more text b now None all e f = sym (ap (with_front text) f) ∙ e
text_more text b now (Some t) all e f = ap (λ u. Some (u, t.1)) (append_assoc text (b ∷ []) t.0) ∙ sym (ap (with_front text) f) ∙ e

pub text_ends : (text rest : List ℕ) (now all : Option (List ℕ × List ℕ)) → with_front text now ≡ all → now ≡ Some ([], rest) → all ≡ Some (text, rest)
text_ends text rest now all e f = sym e ∙ ap (with_front text) f ∙ ap (λ u. Some (u, rest)) (append-nil text)

pub text_fails : (text : List ℕ) (now all : Option (List ℕ × List ℕ)) → with_front text now ≡ all → now ≡ None → all ≡ None
text_fails text now all e f = sym e ∙ ap (with_front text) f

-- ---- parts, one after another

front_nil : {A R : Type 0} (o : Option (List A × R)) → with_front [] o ≡ o
front_nil None = refl
front_nil (Some t) = refl

front_push : {A R : Type 0} (front : List A) (x : A) (o : Option (List A × R)) → with_front (front ++ x ∷ []) o ≡ with_front front (o >>= λ t. Some (x ∷ t.0, t.1))
front_push front x None = refl
front_push front x (Some t) = ap (λ u. Some (u, t.1)) (append_assoc front (x ∷ []) t.0)

pub parts_start : (kinds : List KeyKind) (now : List ℕ) → with_front [] (read_parts kinds now) ≡ read_parts kinds now
parts_start kinds now = front_nil (read_parts kinds now)

pub parts_more : (kinds : List KeyKind) (i : ℕ) (parts : List KeyPart) (part : KeyPart) (now next : List ℕ) (all : Option (List model.KeyPart × List ℕ)) → i < length kinds
    → with_front (view_parts parts) (read_parts (drop i kinds) now) ≡ all → (key_part (get_or kinds i key_kind.Int64)).read now ≡ Some (view_part part, next)
    → with_front (view_parts (parts ++ part ∷ [])) (read_parts (drop (i + 1) kinds) next) ≡ all
parts_more kinds i parts part now next all lt e r =
    ap (λ t. with_front t (read_parts (drop (i + 1) kinds) next)) (map-append view_part parts (part ∷ []))
    ∙ front_push (view_parts parts) (view_part part) (read_parts (drop (i + 1) kinds) next)
    ∙ sym (ap (with_front (view_parts parts)) (ap (λ t. read_parts t now) (drop_more kinds i key_kind.Int64 lt) ∙ ap (λ o. o >>= λ p. read_parts (drop (i + 1) kinds) p.1 >>= λ t. Some (p.0 ∷ t.0, t.1)) r))
    ∙ e

pub parts_fail : (kinds : List KeyKind) (i : ℕ) (parts : List model.KeyPart) (now : List ℕ) (all : Option (List model.KeyPart × List ℕ)) → i < length kinds
    → with_front parts (read_parts (drop i kinds) now) ≡ all → (key_part (get_or kinds i key_kind.Int64)).read now ≡ None → all ≡ None
parts_fail kinds i parts now all lt e r =
    sym e ∙ ap (with_front parts) (ap (λ t. read_parts t now) (drop_more kinds i key_kind.Int64 lt) ∙ ap (λ o. o >>= λ p. read_parts (drop (i + 1) kinds) p.1 >>= λ t. Some (p.0 ∷ t.0, t.1)) r)

pub parts_end : (kinds : List KeyKind) (i : ℕ) (parts : List model.KeyPart) (now : List ℕ) (all : Option (List model.KeyPart × List ℕ)) → length kinds ≤ i
    → with_front parts (read_parts (drop i kinds) now) ≡ all → all ≡ Some (parts, now)
parts_end kinds i parts now all le e =
    sym e ∙ ap (λ t. with_front parts (read_parts t now)) (drop_all i kinds le) ∙ ap (λ u. Some (u, now)) (append-nil parts)
