-- Reading part after part, as a loop does.
use Rattle.std.proofs.Common.{◌≡◌, ℕ, suc, ◌-◌, ◌+◌, ◌≤◌, ◌<◌, List, [], ◌∷◌, ◌++◌, length, get_or, drop, Result, Ok}
use Rattle.std.proofs.Common.{Err, refl, sym, ap, ◌∙◌, arith, drop-cons}
use Rattle.std.proofs.lemmas.List.{drop_all}
use Rattle.classfile.specs.reading.Numbers.{◌>>=◌}
use Rattle.image_parser.specs.declared.fault.RegionFault.{RegionFault}
use Rattle.image_parser.specs.declared.fault.RegionFault.TheVariants as faults
use Rattle.image_parser.specs.FirstFailing.{times}
use Rattle.image_parser.specs.reading.Results.{Fails, each_at}

abbrev pub EachReader : Type 0 → Type 0 → Type 0
EachReader K X = K → List ℕ → Result (X × List ℕ) RegionFault

failed : {A B : Type 0} (e : RegionFault) (r : Result A RegionFault) (f : A → Result B RegionFault)
    (goal : Result B RegionFault) → r ≡ Err e → (r >>= f) ≡ goal → goal ≡ Err e
failed {A} {B} e r f goal h one = sym one ∙ ap (λ (z : Result A RegionFault). z >>= f) h

pub fails_bind : {A B : Type 0} (e : RegionFault) (r : Result A RegionFault) (f : A → Result B RegionFault)
    (goal : Result B RegionFault) → Fails e r → (r >>= f) ≡ goal → Fails e goal
fails_bind faults.Memory r f goal h one = tt
fails_bind faults.Truncated r f goal h one = failed faults.Truncated r f goal h one
fails_bind faults.Shape r f goal h one = failed faults.Shape r f goal h one

each_next : {K X : Type 0} (read : EachReader K X) (ks rest : List K) (k : K) (items : List X) (bytes after : List ℕ)
    (x : X)
    (goal : Result (List X × List ℕ) RegionFault) → ks ≡ k ∷ rest → read k bytes ≡ Ok (x, after)
    → each_at read ks items bytes ≡ goal → each_at read rest (items ++ x ∷ []) after ≡ goal
unfolding each_at
each_next read ks rest k items bytes after x goal is h so_far =
    let one : each_at read ks items bytes ≡ each_at read rest (items ++ x ∷ []) after = rw (is, h) refl in
    sym one ∙ so_far

each_fails : {K X : Type 0} (read : EachReader K X) (e : RegionFault) (ks rest : List K) (k : K) (items : List X)
    (bytes : List ℕ) (goal : Result (List X × List ℕ) RegionFault) → ks ≡ k ∷ rest → Fails e (read k bytes)
    → each_at read ks items bytes ≡ goal → Fails e goal
unfolding each_at
each_fails read e ks rest k items bytes goal is h so_far =
    let one : each_at read (k ∷ rest) items bytes ≡ goal = rw is at so_far in
    fails_bind e (read k bytes) (λ x. each_at read rest (items ++ x.0 ∷ []) x.1) goal h one

-- ---- so many times

again : (n i : ℕ) → i < n → times (n - i) ≡ tt ∷ times (n - (i + 1))
again n i lt = let k : n - i ≡ suc (n - (i + 1)) = omega arith in rw k refl

pub next_time : {X : Type 0} (read : EachReader (Unit {0}) X) {n i : ℕ} (items : List X) (bytes : List ℕ) {x : X}
    {after : List ℕ} {goal : Result (List X × List ℕ) RegionFault} → i < n → read tt bytes ≡ Ok (x, after)
    → each_at read (times (n - i)) items bytes ≡ goal
    → each_at read (times (n - (i + 1))) (items ++ x ∷ []) after ≡ goal
next_time read {n} {i} items bytes {x} {after} {goal} lt h so_far =
    each_next read _ _ tt items bytes after x goal (again n i lt) h so_far

pub time_fails : {X : Type 0} (read : EachReader (Unit {0}) X) (e : RegionFault) {n i : ℕ} (items : List X)
    (bytes : List ℕ) {goal : Result (List X × List ℕ) RegionFault} → i < n → Fails e (read tt bytes)
    → each_at read (times (n - i)) items bytes ≡ goal → Fails e goal
time_fails read e {n} {i} items bytes {goal} lt h so_far =
    each_fails read e _ _ tt items bytes goal (again n i lt) h so_far

pub all_times : {X : Type 0} (read : EachReader (Unit {0}) X) {n i : ℕ} (items : List X) (bytes : List ℕ)
    {goal : Result (List X × List ℕ) RegionFault} → n ≤ i → each_at read (times (n - i)) items bytes ≡ goal
    → goal ≡ Ok (items, bytes)
unfolding each_at
all_times read {n} {i} items bytes {goal} le so_far =
    let k : n - i ≡ 0 = omega arith in
    let one : each_at read (times (n - i)) items bytes ≡ Ok (items, bytes) = rw k refl in
    sym so_far ∙ one

-- ---- for each of a list

split : {K : Type 0} (ks : List K) (i : ℕ) (d : K) → i < length ks → drop i ks ≡ get_or ks i d ∷ drop (i + 1) ks
split {K} ks i d lt =
    let next : suc i ≡ i + 1 = omega arith in drop-cons ks i d lt ∙ ap (λ (k : ℕ). get_or ks i d ∷ drop k ks) next

pub next_of : {K X : Type 0} (read : EachReader K X) (ks : List K) {i : ℕ} (d : K) (items : List X)
    (bytes : List ℕ) {x : X}
    {after : List ℕ} {goal : Result (List X × List ℕ) RegionFault} → i < length ks
    → read (get_or ks i d) bytes ≡ Ok (x, after) → each_at read (drop i ks) items bytes ≡ goal
    → each_at read (drop (i + 1) ks) (items ++ x ∷ []) after ≡ goal
next_of read ks {i} d items bytes {x} {after} {goal} lt h so_far =
    each_next read _ _ (get_or ks i d) items bytes after x goal (split ks i d lt) h so_far

pub fails_of : {K X : Type 0} (read : EachReader K X) (e : RegionFault) (ks : List K) {i : ℕ} (d : K) (items : List X)
    (bytes : List ℕ) {goal : Result (List X × List ℕ) RegionFault} → i < length ks
    → Fails e (read (get_or ks i d) bytes) → each_at read (drop i ks) items bytes ≡ goal → Fails e goal
fails_of read e ks {i} d items bytes {goal} lt h so_far =
    each_fails read e _ _ (get_or ks i d) items bytes goal (split ks i d lt) h so_far

pub all_of : {K X : Type 0} (read : EachReader K X) (ks : List K) {i : ℕ} (items : List X) (bytes : List ℕ)
    {goal : Result (List X × List ℕ) RegionFault} → length ks ≤ i → each_at read (drop i ks) items bytes ≡ goal
    → goal ≡ Ok (items, bytes)
unfolding each_at
all_of read ks {i} items bytes {goal} le so_far =
    let one : each_at read (drop i ks) items bytes ≡ Ok (items, bytes) = rw (drop_all i ks le) refl in
    sym so_far ∙ one
