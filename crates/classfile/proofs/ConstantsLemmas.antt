-- Reading constant after constant, as a loop does.
use Rattle.std.proofs.Common.{◌≡◌, ℕ, suc, ◌-◌, ◌+◌, ◌≤◌, ◌<◌, Bool, eqb, List, [], ◌∷◌, ◌++◌, Result, Ok, Err, refl}
use Rattle.std.proofs.Common.{sym, ap, ◌∙◌, append_assoc, arith}
use Rattle.std.proofs.lemmas.List.{append-nil}
use Rattle.classfile.specs.declared.fault.ClassFault.{ClassFault}
use Rattle.classfile.specs.declared.fault.ClassFault.TheVariants as faults
use Rattle.classfile.specs.declared.constant.Constant.{Constant}
use Rattle.classfile.specs.reading.Numbers.{◌>>=◌}
use Rattle.classfile.specs.Gives.{Fails}
use Rattle.classfile.specs.Constants.{is_wide}
use Rattle.classfile.specs.reading.Constants.{with_front, constant_at, constants_from}

regroup : (front : List Constant) (n : Constant) (read : Result (List Constant × List ℕ) ClassFault)
    → with_front front (read >>= λ x. Ok (n ∷ x.0, x.1)) ≡ with_front (front ++ n ∷ []) read
regroup front n (Ok x) = ap (λ (ns : List Constant). Ok (ns, x.1)) (simp append_assoc)
regroup front n (Err f) = refl

pub next_constant : (front : List Constant) (after_wide : Bool) (total count i : ℕ) (bytes : List ℕ) (n : Constant)
    (after : List ℕ) (goal : Result (List Constant × List ℕ) ClassFault) → i < count
    → constant_at after_wide (eqb (i + 1) count) total i bytes ≡ Ok (n, after)
    → with_front front (constants_from (count - i) after_wide total count i bytes) ≡ goal
    → with_front (front ++ n ∷ []) (constants_from (count - (i + 1)) (is_wide n) total count (i + 1) after) ≡ goal
unfolding constants_from
next_constant front after_wide total count i bytes n after goal lt h so_far =
    let k : count - i ≡ suc (count - (i + 1)) = omega arith in
    let one : with_front front (constants_from (count - i) after_wide total count i bytes) ≡ with_front
    (front ++ n ∷ []) (constants_from (count - (i + 1)) (is_wide n) total count (i + 1) after) =
    rw (k, h) (regroup front n (constants_from (count - (i + 1)) (is_wide n) total count (i + 1) after)) in
    sym one ∙ so_far

pub fails_first : {A B : Type 0} (e : ClassFault) (r : Result A ClassFault) (f : A → Result B ClassFault)
    (goal : Result B ClassFault) → Fails e r → (r >>= f) ≡ goal → Fails e goal
fails_first faults.Memory r f goal h so_far = tt
fails_first (faults.Truncated at) r f goal h so_far = sym so_far ∙ rw h refl
fails_first (faults.Extra at) r f goal h so_far = sym so_far ∙ rw h refl
fails_first faults.Magic r f goal h so_far = sym so_far ∙ rw h refl
fails_first (faults.Version major minor) r f goal h so_far = sym so_far ∙ rw h refl
fails_first (faults.Tag index) r f goal h so_far = sym so_far ∙ rw h refl
fails_first (faults.Index at) r f goal h so_far = sym so_far ∙ rw h refl
fails_first (faults.Utf8 index) r f goal h so_far = sym so_far ∙ rw h refl
fails_first (faults.Descriptor index) r f goal h so_far = sym so_far ∙ rw h refl
fails_first (faults.Attribute at) r f goal h so_far = sym so_far ∙ rw h refl

pub constant_fails : (e : ClassFault) (front : List Constant) (after_wide : Bool) (total count i : ℕ) (bytes : List ℕ)
    (goal : Result (List Constant × List ℕ) ClassFault) → i < count
    → Fails e (constant_at after_wide (eqb (i + 1) count) total i bytes)
    → with_front front (constants_from (count - i) after_wide total count i bytes) ≡ goal → Fails e goal
unfolding constants_from
constant_fails e front after_wide total count i bytes goal lt h so_far =
    let k : count - i ≡ suc (count - (i + 1)) = omega arith in
    let rest : Constant × List ℕ → Result (List Constant × List ℕ) ClassFault =
    λ first. constants_from (count - (i + 1)) (is_wide first.0) total count (i + 1) first.1 >>= λ others.
    Ok (first.0 ∷ others.0, others.1) in
    let one : with_front front (constants_from (suc (count - (i + 1))) after_wide total count i bytes) ≡ goal =
    rw k at so_far in
    fails_first e (constant_at after_wide (eqb (i + 1) count) total i bytes >>= rest) (λ x. Ok (front ++ x.0, x.1)) goal
    (fails_first e (constant_at after_wide (eqb (i + 1) count) total i bytes) rest _ h refl) one

pub all_constants : (front : List Constant) (after_wide : Bool) (total count i : ℕ) (bytes : List ℕ)
    (goal : Result (List Constant × List ℕ) ClassFault) → count ≤ i
    → with_front front (constants_from (count - i) after_wide total count i bytes) ≡ goal → goal ≡ Ok (front, bytes)
unfolding constants_from
all_constants front after_wide total count i bytes goal le so_far =
    let k : count - i ≡ 0 = omega arith in
    let one : with_front front (constants_from (count - i) after_wide total count i bytes) ≡ Ok (front, bytes) =
    rw k (ap (λ (ns : List Constant). Ok (ns, bytes)) (append-nil front)) in
    sym so_far ∙ one
