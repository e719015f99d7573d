-- The classes of each wave, as they join it.
use Rattle.std.proofs.Common.{◌≡◌, ℕ, ◌+◌, ◌<◌, ◌≤◌, List, [], ◌∷◌, ◌++◌, length, take, replicate}
use Rattle.std.proofs.Common.{slice_index, slice_index_or, slice_set, slice_get, Some, inl, inr, refl, sym, ap, subst}
use Rattle.std.proofs.Common.{◌∙◌, arith}
use Rattle.std.proofs.lemmas.Bool.{cases_eq}
use Rattle.std.specs.List.{Contains}
use Rattle.std.proofs.lemmas.Grind.{common_steps}
use Rattle.std.proofs.lemmas.List.{length-set, length-replicate}
use Rattle.std.proofs.lemmas.List.Elements.{Contains-push, Contains-push_cases, Contains-append_left}
use Rattle.std.proofs.lemmas.Option.{slice_get_within, slice_get-get_or}
use Rattle.std.specs.declared.vec.Vec.{Vec}
use Rattle.std.specs.declared.alloc.Global.{Global}
use Rattle.graph.specs.Rows.{Rows, rows_of}
use Rattle.graph.proofs.RowsLemmas.{successors_of-set_same, successors_of-set_other, successors_of-empty, has_successor}
use Rattle.graph.proofs.RowsLemmas.{row_pushed, length-rows_of}
use Rattle.initializer_analysis.specs.declared.verdict.Verdict.{Verdict}
use Rattle.initializer_analysis.specs.declared.verdict.Verdict.TheVariants.{Wave, Refused}
use Rattle.initializer_analysis.specs.Verdicts.{HasWave}
use Rattle.wave_scheduler.specs.steps.WaveMembers.{members_in, AreEachOnce, AreMembersOfAll, AreMembersBelow}
use Rattle.wave_scheduler.specs.steps.WaveMembers.{AreMembersOfAllBelow}
use Rattle.wave_scheduler.specs.steps.WaveMembers.{JoinsWave}
use Rattle.wave_scheduler.proofs.WavesLemmas.{one_before}
use Rattle.wave_scheduler.proofs.SpreadingLemmas.{less_or_same}

-- ---- one more class

take_before : (members : List ℕ) (c j : ℕ) → j < length members → take j (members ++ c ∷ []) ≡ take j members
take_before members c j small = grind (arith, common_steps)

take_whole : (members : List ℕ) (c : ℕ) → take (length members) (members ++ c ∷ []) ≡ members
take_whole members c = grind (arith, common_steps)

index_before : (members : List ℕ) (c j : ℕ) → j < length members → slice_index (members ++ c ∷ []) j ≡ slice_index
    members j
index_before members c j small = grind (arith, common_steps)

index_last : (members : List ℕ) (c : ℕ) → slice_index (members ++ c ∷ []) (length members) ≡ c
index_last members c = grind (arith, common_steps)

length_more : (members : List ℕ) (c : ℕ) → length (members ++ c ∷ []) ≡ length members + 1
length_more members c = grind (arith, common_steps)

once_more : (members : List ℕ) (c : ℕ) → AreEachOnce members → (¬ Contains members c) → AreEachOnce (members ++ c ∷ [])
once_more members c once new j small = elim (less_or_same j (length members) (omega (arith, length_more members c))) [
  | inl less ↦ rw (take_before members c j less, index_before members c j less) (once j less)
  | inr last ↦ rw (last, take_whole members c, index_last members c) new
]

joined : (judged : List Verdict) (c n : ℕ) (members : List ℕ) → HasWave judged c n → AreMembersBelow judged c n members
    → AreMembersBelow judged (c + 1) n (members ++ c ∷ [])
joined judged c n members wave below = record {
  has = λ x there. elim (Contains-push_cases members c x there) [
    | inl before ↦ (let (low, had) = below.has x before in (omega arith, had))
    | inr is ↦ (omega arith, subst (λ (y : ℕ). HasWave judged y n) is wave)
  ];
  all = λ x low had. elim (less_or_same x c low) [
    | inl less ↦ Contains-append_left members (c ∷ []) x (below.all x less had)
    | inr same ↦ subst (Contains (members ++ c ∷ [])) (sym same) (Contains-push members c)
  ];
  once = once_more members c below.once (λ there. (let (low, had) = below.has c there in omega arith));
}

kept : (judged : List Verdict) (c n : ℕ) (members : List ℕ) → (¬ HasWave judged c n) → AreMembersBelow judged c n
    members
    → AreMembersBelow judged (c + 1) n members
kept judged c n members never below = record {
  has = λ x there. (let (low, had) = below.has x there in (omega arith, had));
  all = λ x low had. elim (less_or_same x c low) [
    | inl less ↦ below.all x less had
    | inr same ↦ absurd (never (subst (λ (y : ℕ). HasWave judged y n) same had))
  ];
  once = below.once;
}

verdict_there : (judged : List Verdict) (c : ℕ) (v d : Verdict) → c < length judged → v ≡ slice_index_or judged c d
    → slice_get judged c ≡ Some v
verdict_there judged c v d low is = slice_get-get_or judged c d low ∙ ap Some (sym is)

pub members_more : (judged : List Verdict) (c count : ℕ) (old new : Rows) (v d : Verdict) → c < length judged
    → v ≡ slice_index_or judged c d → ((n : ℕ) → v ≡ Wave n → n < count) → AreMembersOfAllBelow judged c count old
    → JoinsWave c v old new → AreMembersOfAllBelow judged (c + 1) count new
members_more judged c count old new (Wave m) d low is above below joins = rw joins (record {
  len = length-set old m (members_in old m ++ c ∷ []) ∙ below.len;
  each = λ n. elim (cases_eq n m) [
    | inl same ↦ rw (same, successors_of-set_same old m (members_in old m ++ c ∷ []) small)
        (joined judged c m (members_in old m) wave (below.each m))
    | inr apart ↦ rw (successors_of-set_other old m n (members_in old m ++ c ∷ []) apart)
        (kept judged c n (members_in old n) (λ had. apart (one_before judged c n m had wave)) (below.each n))
  ];
})
  where
    wave : HasWave judged c m
    wave = verdict_there judged c (Wave m) d low is

    small : m < length old
    small = (let less = above m refl in omega (arith, below.len))
members_more judged c count old new (Refused r) d low is above below joins = rw joins (record {
  len = below.len;
  each = λ n. kept judged c n (members_in old n) (never n) (below.each n);
})
  where
    never : (n : ℕ) → ¬ HasWave judged c n
    never n had =
        (let clash : Some (Refused r) ≡ Some (Wave n) = sym (verdict_there judged c (Refused r) d low is) ∙ had in cc)

pub verdict_wave : (judged : List Verdict) (c n : ℕ) (v d : Verdict) → c < length judged
    → v ≡ slice_index_or judged c d → v ≡ Wave n → HasWave judged c n
verdict_wave judged c n v d low is wave = verdict_there judged c v d low is ∙ ap Some wave

pub joins_pushed : (waves : List (Vec ℕ Global)) (c m : ℕ) (v : Verdict) (members new : Vec ℕ Global) → v ≡ Wave m
    → m < length waves → members ≡ slice_index_or waves m members → new.items ≡ members.items ++ c ∷ []
    → JoinsWave c v (rows_of waves) (rows_of (slice_set waves m new))
joins_pushed waves c m v members new is low read pushed =
    rw is (row_pushed waves (rows_of waves) m c members new refl (omega (arith, length-rows_of waves)) read pushed)

-- ---- none, and all

pub members_none : (judged : List Verdict) (count : ℕ) (waves : Rows) → waves ≡ replicate count []
    → AreMembersOfAllBelow judged 0 count waves
members_none judged count waves are = rw are (record {
  len = length-replicate count [];
  each = λ n. rw (successors_of-empty count n) (record {
    has = λ c there. absurd (omega (arith, there.1));
    all = λ c low had. absurd (omega arith);
    once = λ i small. absurd (omega arith);
  });
})

pub members_all : (judged : List Verdict) (limit count : ℕ) (waves : Rows) → length judged ≤ limit
    → AreMembersOfAllBelow judged limit count waves → AreMembersOfAll judged waves
members_all judged limit count waves high below n = record {
  has = λ c there. ((below.each n).has c there).1;
  all = λ c had. (let small = slice_get_within judged c (Wave n) had in (below.each n).all c (omega arith) had);
  once = (below.each n).once;
}

-- each wave is there
pub waves_low : (judged : List Verdict) (waves : Rows) → AreMembersOfAll judged waves → (c n : ℕ) → HasWave judged c n
    → n < length waves
waves_low judged waves are c n had = has_successor waves n c ((are n).all c had)
