-- Bytes that a sink got, one piece after the other.
use Rattle.std.proofs.Common.{◌∙◌, ◌+◌, ◌++◌, ℕ, List, [], Option, Some, None, ap, sym, subst, take, drop}
use Rattle.std.proofs.Common.{append_assoc, append-nil}
use Rattle.std.proofs.Math.Seq.{take-add}
use Rattle.std.specs.Io.KnownBytes.{Appends}

pub appends_nothing : (old : Option (List ℕ)) → Appends old old []
appends_nothing None = tt
appends_nothing (Some xs) = sym (append-nil xs)

pub appends_then : (old now new : Option (List ℕ)) (first second : List ℕ) → Appends old now first
    → Appends now new second → Appends old new (first ++ second)
appends_then None now new first second a b = tt
appends_then (Some xs) None new first second a b = absurd a
appends_then (Some xs) (Some ys) None first second a b = absurd b
appends_then (Some xs) (Some ys) (Some zs) first second a b =
    b ∙ ap (λ (r : List ℕ). r ++ second) a ∙ append_assoc xs first second

-- a further part of a text
pub appends_more : (old now new : Option (List ℕ)) (text : List ℕ) (at n : ℕ) → Appends old now (take at text)
    → Appends now new (take n (drop at text)) → Appends old new (take (at + n) text)
appends_more old now new text at n a b =
    subst (λ (r : List ℕ). Appends old new r) (sym (take-add at n text))
    (appends_then old now new (take at text) (take n (drop at text)) a b)
