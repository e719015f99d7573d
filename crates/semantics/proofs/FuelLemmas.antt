-- Fuel: the sum over the classes, and one class's share made smaller.
use Rattle.std.proofs.Common.{◌≡◌, ◌≢◌, ℕ, zero, suc, ◌+◌, ◌<◌, ◌≤◌, true, false, inl, inr, ◌==◌, if◌then◌else◌, refl}
use Rattle.std.proofs.Common.{sym, ap, ◌∙◌}
use Rattle.std.proofs.Common.{eqb-true, eq-eqb, arith}
use Rattle.vm_state.proofs.ListLemmas.{tested}

abbrev pub total : (ℕ → ℕ) → ℕ → ℕ
total f zero = 0
total f (suc n) = total f n + f n

-- with another share of c
abbrev pub shared_out : (ℕ → ℕ) → ℕ → ℕ → ℕ → ℕ
shared_out f c x d = if d == c then x else f d

total_same : (f : ℕ → ℕ) (c x n : ℕ) → n ≤ c → total (shared_out f c x) n ≡ total f n
total_same f c x zero h = refl
total_same f c x (suc n) h =
    let other : shared_out f c x n ≡ f n = elim (tested (n == c)) [
      | inl e ↦ (let same : n ≡ c = eqb-true n c e in absurd (omega arith))
      | inr e ↦ rw e
    ] in
    let rest : total (shared_out f c x) n ≡ total f n = total_same f c x n (omega arith) in
    cc

pub total_less : (f : ℕ → ℕ) (c x n : ℕ) → c < n → x < f c → total (shared_out f c x) n < total f n
total_less f c x zero h k = absurd (omega arith)
total_less f c x (suc n) h k = elim (tested (n == c)) [
  | inl e ↦
      let same : n ≡ c = eqb-true n c e in
      let here : shared_out f c x n ≡ x = rw e refl in
      let there : f n ≡ f c = ap f same in
      let rest : total (shared_out f c x) n ≡ total f n = total_same f c x n (omega arith) in
      omega arith
  | inr e ↦
      let here : shared_out f c x n ≡ f n = rw e refl in
      let apart : n ≢ c = λ same. (let clash : false ≡ true = sym e ∙ eq-eqb n c same in cc) in
      let rest : total (shared_out f c x) n < total f n = total_less f c x n (omega arith) k in
      omega arith
]
