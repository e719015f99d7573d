-- Reading item after item, as a loop does.
use Rattle.std.proofs.Common.{◌≡◌, ℕ, suc, ◌-◌, ◌+◌, ◌≤◌, ◌<◌, List, [], ◌∷◌, ◌++◌, Result, Ok, refl, sym, ◌∙◌, arith}
use Rattle.classfile.specs.declared.fault.ClassFault.{ClassFault}
use Rattle.classfile.specs.Gives.{Fails}
use Rattle.classfile.specs.reading.Repeat.{repeat_at}
use Rattle.classfile.proofs.ConstantsLemmas.{fails_first}

abbrev pub Reader : Type 0 → Type 0
Reader X = List X → List ℕ → Result (X × List ℕ) ClassFault

pub next_item : {X : Type 0} (read : Reader X) {n i : ℕ} {items : List X} {bytes : List ℕ} {x : X} {after : List ℕ}
    {goal : Result (List X × List ℕ) ClassFault} → i < n → read items bytes ≡ Ok (x, after)
    → repeat_at read (n - i) items bytes ≡ goal → repeat_at read (n - (i + 1)) (items ++ x ∷ []) after ≡ goal
unfolding repeat_at
next_item read {n} {i} {items} {bytes} {x} {after} {goal} lt h so_far =
    let k : n - i ≡ suc (n - (i + 1)) = omega arith in
    let one : repeat_at read (n - i) items bytes ≡ repeat_at read (n - (i + 1)) (items ++ x ∷ []) after =
    rw (k, h) refl in
    sym one ∙ so_far

pub item_fails : {X : Type 0} (read : Reader X) (e : ClassFault) {n i : ℕ} (items : List X) (bytes : List ℕ)
    {goal : Result (List X × List ℕ) ClassFault} → i < n → Fails e (read items bytes)
    → repeat_at read (n - i) items bytes ≡ goal
    → Fails e goal
unfolding repeat_at
item_fails read e {n} {i} items bytes {goal} lt h so_far =
    let k : n - i ≡ suc (n - (i + 1)) = omega arith in
    let one : repeat_at read (suc (n - (i + 1))) items bytes ≡ goal = rw k at so_far in
    fails_first e (read items bytes) (λ x. repeat_at read (n - (i + 1)) (items ++ x.0 ∷ []) x.1) goal h one

pub all_items : {X : Type 0} (read : Reader X) {n i : ℕ} {items : List X} {bytes : List ℕ}
    {goal : Result (List X × List ℕ) ClassFault} → n ≤ i → repeat_at read (n - i) items bytes ≡ goal
    → goal ≡ Ok (items, bytes)
unfolding repeat_at
all_items read {n} {i} {items} {bytes} {goal} le so_far =
    let k : n - i ≡ 0 = omega arith in
    let one : repeat_at read (n - i) items bytes ≡ Ok (items, bytes) = rw k refl in
    sym so_far ∙ one
