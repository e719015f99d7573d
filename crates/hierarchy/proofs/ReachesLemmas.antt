-- Rows of reaches as classes come, depth first.
use Rattle.std.proofs.Common.{◌≡◌, ℕ, suc, ◌-◌, ◌<◌, ◌≤◌, Bool, true, false, cond, List, [], ◌∷◌, ◌++◌, length}
use Rattle.std.proofs.Common.{Option, Some, None, slice_get, fold, ltb, refl, sym, ap, ◌∙◌, subst, inl, inr, arith}
use Rattle.std.proofs.Common.{zero, take, get_or, ◌+◌}
use Rattle.std.specs.Option.{is_none}
use Rattle.std.proofs.lemmas.Bool.{and_parts, ltb-true, ltb-false, lt-ltb}
use Rattle.std.proofs.lemmas.List.{length-append, length-take-le, take_all, take_more}
use Rattle.std.proofs.lemmas.Option.{get_or_from_slice_get, slice_get_within, slice_get-get_or}
use Rattle.loading.specs.Families.{Family}
use Rattle.loading.proofs.PlaceLemmas.{pushed_at, kept_at, last_at}
use Rattle.hierarchy.specs.steps.MemberKeys.{same_key}
use Rattle.hierarchy.specs.declared.member_key.MemberKey.{MemberKey}
use Rattle.hierarchy.proofs.MemberKeysLemmas.{key_is, same_key_itself}
use Rattle.hierarchy.proofs.ReachTableLemmas.{from_last, reaching_from}
use Rattle.hierarchy.specs.steps.Reaches.{EndsAt, Nearest, Tells, TellsAlone, TellsUpTo, reaching, reach_after, GoUp}
use Rattle.hierarchy.specs.steps.Reaches.{ends_idle, last_nearest, nearest_of, noted_in, without_idle_end}
use Rattle.hierarchy.specs.declared.member.DeclaredMember.{DeclaredMember}
use Rattle.hierarchy.specs.declared.reach_table.Reach.{Reach}

fold_push : (row : List Reach) (place : ℕ) (before : Option DeclaredMember) (x : Reach)
    → fold (reach_after place) before (row ++ x ∷ []) ≡ reach_after place (fold (reach_after place) before row) x
fold_push [] place before x = refl
fold_push (y ∷ ys) place before x = fold_push ys place (reach_after place before y) x

reaching_before : (row : List Reach) (place : ℕ) (x : Reach) → place < x.from
    → reaching (row ++ x ∷ []) place ≡ reaching row place
reaching_before row place x less = fold_push row place None x ∙ rw (lt-ltb place x.from less) refl

reaching_at : (row : List Reach) (place : ℕ) (x : Reach) → x.from ≡ place
    → reaching (row ++ x ∷ []) place ≡ x.nearest
reaching_at row place x same = fold_push row place None x ∙ by (ltb place x.from) refl
  where
    by : (b : Bool) → ltb place x.from ≡ b → reach_after place (reaching row place) x ≡ x.nearest
    by true e = absurd (omega (arith, ltb-true place x.from e, same))
    by false e = rw e refl

-- ---- a last reach that says nothing more

taken_at : (row : List Reach) (n i : ℕ) (x : Reach) → slice_get (take n row) i ≡ Some x → slice_get row i ≡ Some x
taken_at [] zero i x h = h
taken_at [] (suc n) i x h = h
taken_at (y ∷ ys) zero i x h = absurd cc
taken_at (y ∷ ys) (suc n) zero x h = h
taken_at (y ∷ ys) (suc n) (suc i) x h = taken_at ys n i x h

taken_same : (row : List Reach) (n i : ℕ) → i < n → slice_get (take n row) i ≡ slice_get row i
taken_same row zero i h = absurd (omega (arith, h))
taken_same [] (suc n) i h = refl
taken_same (y ∷ ys) (suc n) zero h = refl
taken_same (y ∷ ys) (suc n) (suc i) h = taken_same ys n i (omega (arith, h))

last_taken : (row : List Reach) (n m : ℕ) → m ≤ n → last_nearest (take n row) m ≡ last_nearest row m
last_taken row n zero h = refl
last_taken row n (suc k) h = ap nearest_of (taken_same row n k (omega (arith, h)))

is_nothing : (o : Option DeclaredMember) → is_none o ≡ true → o ≡ None
is_nothing None e = refl
is_nothing (Some m) e = absurd cc

idle_reach : (row : List Reach) (x : Reach) (place : ℕ) → GoUp (row ++ x ∷ []) → x.nearest ≡ None
    → last_nearest row (length row) ≡ None → reaching (row ++ x ∷ []) place ≡ reaching row place
idle_reach row x place up last before = fold_push row place None x ∙ by (ltb place x.from) refl
  where
    from_none : (m : ℕ) → from_last None row m ≡ last_nearest row m
    from_none zero = refl
    from_none (suc m) = refl

    nothing : x.from ≤ place → reaching row place ≡ None
    nothing low =
        reaching_from row place (length row) None (omega arith)
        (λ i a less at. omega (
          arith,
          low,
          up i (length row) a x (omega (arith, less)) (kept_at row x a i at)
              (last_at row x),
        ))
        (λ i a more at. absurd (omega (arith, more, slice_get_within row i a at)))
        ∙ from_none (length row) ∙ before

    by : (b : Bool) → ltb place x.from ≡ b → reach_after place (reaching row place) x ≡ reaching row place
    by true e = rw e refl
    by false e = rw e (last ∙ sym (nothing (ltb-false place x.from e)))

idle_at : (row : List Reach) (m : ℕ) (x : Reach) (place : ℕ) → length row ≡ suc m → slice_get row m ≡ Some x
    → GoUp row → last_nearest row (length row) ≡ None → last_nearest row m ≡ None
    → reaching row place ≡ reaching (take m row) place
idle_at row m x place count at up last before =
    let within : m < length row = omega (arith, count) in
    let whole : take m row ++ x ∷ [] ≡ row =
    ap (λ (z : Reach). take m row ++ z ∷ []) (sym (get_or_from_slice_get row m x x at))
    ∙ sym (take_more row m x within) ∙ take_all (m + 1) row (omega (arith, count)) in
    let nothing : x.nearest ≡ None = ap nearest_of (sym at) ∙ ap (last_nearest row) (sym count) ∙ last in
    let earlier : last_nearest (take m row) (length (take m row)) ≡ None =
    ap (last_nearest (take m row)) (length-take-le m row (omega (arith, count)))
    ∙ last_taken row m m (omega arith) ∙ before in
    ap (λ (l : List Reach). reaching l place) (sym whole)
    ∙ idle_reach (take m row) x place (subst GoUp (sym whole) up) nothing earlier

idle_end : (row : List Reach) (place : ℕ) → GoUp row → ends_idle row ≡ true
    → reaching row place ≡ reaching (take (length row - 1) row) place
idle_end [] place up idle = refl
idle_end (y ∷ ys) place up idle =
    let count : length ys ≡ length (y ∷ ys) - 1 = omega arith in
    let last = last_nearest (y ∷ ys) (length (y ∷ ys)) in
    let before = last_nearest (y ∷ ys) (length (y ∷ ys) - 1) in
    let parts = and_parts (is_none last) (is_none before) idle in
    idle_at (y ∷ ys) (length ys) (get_or (y ∷ ys) (length ys) y) place refl
    (slice_get-get_or (y ∷ ys) (length ys) y (omega arith)) up (is_nothing last parts.0)
    (ap (last_nearest (y ∷ ys)) count ∙ is_nothing before parts.1)
    ∙ ap (λ (n : ℕ). reaching (take n (y ∷ ys)) place) count

-- a row ends at the place of its last reach
pub ends_pushed : (row : List Reach) (x : Reach) → EndsAt (row ++ x ∷ []) x.from
ends_pushed row x =
    let count : length (row ++ x ∷ []) - 1 ≡ length row = omega (arith, length-append row (x ∷ [])) in
    (x, ap (slice_get (row ++ x ∷ [])) count ∙ last_at row x, refl)

pub ends_by_key : (key k : MemberKey) (old new : List Reach) (x : Reach)
    → new ≡ cond (same_key key k) (noted_in old x) old → EndsAt old x.from → EndsAt new x.from
ends_by_key key k old new x is ends = by (same_key key k) refl
  where
    by : (b : Bool) → same_key key k ≡ b → EndsAt new x.from
    by true e =
        let pushed : new ≡ noted_in old x = is ∙ rw e refl in
        subst (λ (l : List Reach). EndsAt l x.from) (sym pushed) (ends_pushed (without_idle_end old) x)
    by false e =
        let kept : new ≡ old = is ∙ rw e refl in subst (λ (l : List Reach). EndsAt l x.from) (sym kept) ends

pub ends_of_key : (key : MemberKey) (old new : List Reach) (x : Reach)
    → new ≡ cond (same_key key key) (noted_in old x) old → EndsAt new x.from
ends_of_key key old new x is =
    let pushed : new ≡ noted_in old x = is ∙ rw (same_key_itself key) refl in
    subst (λ (l : List Reach). EndsAt l x.from) (sym pushed) (ends_pushed (without_idle_end old) x)

module _ (family : Family) (own : ℕ → Option ℕ) (classes : List ℕ) where
  -- what tells of the classes so far tells of them and the next one when that is noted
  pub tell_next : (c : ℕ) (row : List Reach) (place : ℕ) (r : Option DeclaredMember) → length classes ≡ place
      → Tells family own classes row → Nearest family own c r
      → TellsAlone family own (classes ++ c ∷ []) (row ++ record { from = place; nearest = r } ∷ [])
  tell_next c row place r count tells near = record {
    tells = record { up = ups; below = λ i a at. omega (arith, alone i a at); told = told };
    none_beyond = alone;
  }
    where
      x : Reach
      x = record { from = place; nearest = r }

      ups : GoUp (row ++ x ∷ [])
      ups i j a b before first second = elim (pushed_at row x a i first) [
        | inl early ↦ elim (pushed_at row x b j second) [
          | inl late ↦ tells.up i j a b before early late
          | inr last ↦ subst (λ (y : Reach). a.from ≤ y.from) last.1
              (omega (arith, tells.below i a early, count))
        ]
        | inr end ↦ elim (pushed_at row x b j second) [
          | inl late ↦ absurd (omega (arith, slice_get_within row j b late, end.0, before))
          | inr last ↦ subst (λ (y : Reach). y.from ≤ b.from) end.1
              (subst (λ (y : Reach). place ≤ y.from) last.1 (omega arith))
        ]
      ]

      alone : (i : ℕ) (a : Reach) → slice_get (row ++ x ∷ []) i ≡ Some a → a.from < length (classes ++ c ∷ [])
      alone i a at = elim (pushed_at row x a i at) [
        | inl early ↦ omega (arith, tells.below i a early, length-append classes (c ∷ []))
        | inr last ↦ subst (λ (y : Reach). y.from < length (classes ++ c ∷ [])) last.1
            (omega (arith, count, length-append classes (c ∷ [])))
      ]

      told : (q d : ℕ) → slice_get (classes ++ c ∷ []) q ≡ Some d → Nearest family own d (reaching (row ++ x ∷ []) q)
      told q d at = elim (pushed_at classes c d q at) [
        | inl early ↦ subst (λ n. Nearest family own d n)
            (sym (reaching_before row q x (omega (arith, slice_get_within classes q d early, count))))
            (tells.told q d early)
        | inr last ↦ subst (λ n. Nearest family own d n) (sym (reaching_at row q x (sym count ∙ sym last.0)))
            (subst (λ e. Nearest family own e r) last.1 near)
      ]

  -- and so does the row without a last reach that says nothing more
  tells_without : (row : List Reach) → Tells family own classes row → Tells family own classes (without_idle_end row)
  tells_without row tells = by (ends_idle row) refl
    where
      by : (b : Bool) → ends_idle row ≡ b → Tells family own classes (cond b (take (length row - 1) row) row)
      by false e = tells
      by true e = record {
        up = λ i j a b before first second.
            tells.up i j a b before (taken_at row (length row - 1) i a first)
            (taken_at row (length row - 1) j b second);
        below = λ i a at. tells.below i a (taken_at row (length row - 1) i a at);
        told = λ q d at. subst (λ (r : Option DeclaredMember). Nearest family own d r) (idle_end row q tells.up e)
            (tells.told q d at);
      }

  -- what tells of one class more tells of those before
  pub tells_fewer : (c : ℕ) (row : List Reach) → TellsAlone family own (classes ++ c ∷ []) row
      → Tells family own classes row
  tells_fewer c row alone = record {
    up = alone.tells.up;
    below = λ i a at. omega (arith, alone.none_beyond i a at, length-append classes (c ∷ []));
    told = λ q d at. alone.tells.told q d (kept_at classes c d q at);
  }

  -- where a row ends at the place of the class that comes, it tells of that class too
  pub told_at_end : (c : ℕ) (row : List Reach) (place : ℕ) → length classes ≡ place
      → TellsUpTo family own classes c row → EndsAt row place → TellsAlone family own (classes ++ c ∷ []) row
  told_at_end c row place count (inl alone) (a, at, from) =
      absurd (omega (arith, alone.none_beyond (length row - 1) a at, from, count))
  told_at_end c row place count (inr alone) ends = alone

  pub tells_so_far : (c : ℕ) (row : List Reach) → TellsUpTo family own classes c row → Tells family own classes row
  tells_so_far c row (inl alone) = alone.tells
  tells_so_far c row (inr alone) = tells_fewer c row alone

  -- one key is noted, and the others stay
  pub tells_by_key : (c : ℕ) (key k : MemberKey) (old new : List Reach) (place : ℕ) (r : Option DeclaredMember)
      → length classes ≡ place
      → new ≡ cond (same_key key k) (noted_in old (record { from = place; nearest = r })) old
      → (key ≡ k → Tells family own classes old → Nearest family own c r)
      → TellsUpTo family own classes c old → TellsUpTo family own classes c new
  tells_by_key c key k old new place r count is near before = by (same_key key k) refl
    where
      by : (b : Bool) → same_key key k ≡ b → TellsUpTo family own classes c new
      by false e = let kept : new ≡ old = is ∙ rw e refl in subst (TellsUpTo family own classes c) (sym kept) before
      by true e =
          let tells = tells_so_far c old before in
          let pushed : new ≡ noted_in old (record { from = place; nearest = r }) = is ∙ rw e refl in
          subst (TellsUpTo family own classes c) (sym pushed)
          (inr (tell_next c (without_idle_end old) place r count (tells_without old tells)
          (near (key_is key k e) tells)))

  -- the last class tells of the next one where both have the same nearest one
  pub tells_same : (v c : ℕ) (row : List Reach) (last : ℕ) → length classes ≡ suc last
      → slice_get classes last ≡ Some v
      → TellsAlone family own classes row
      → ((r : Option DeclaredMember) → Nearest family own v r → Nearest family own c r)
      → TellsAlone family own (classes ++ c ∷ []) row
  tells_same v c row last count there alone same = record {
    tells = record {
      up = alone.tells.up;
      below = λ i a at. omega (arith, alone.none_beyond i a at, length-append classes (c ∷ []));
      told = told;
    };
    none_beyond = λ i a at. omega (arith, alone.none_beyond i a at, length-append classes (c ∷ []));
  }
    where
      told : (q d : ℕ) → slice_get (classes ++ c ∷ []) q ≡ Some d → Nearest family own d (reaching row q)
      told q d at = elim (pushed_at classes c d q at) [
        | inl early ↦ alone.tells.told q d early
        | inr end ↦ (let further : reaching row q ≡ reaching row last =
            beyond row q last (λ i a held. omega (arith, alone.none_beyond i a held, count))
            (omega (arith, end.0, count)) in
            subst (λ e. Nearest family own e (reaching row q)) end.1
            (subst (λ n. Nearest family own c n) (sym further)
            (same (reaching row last) (alone.tells.told last v there))))
      ]
        where
          beyond_from : (before : Option DeclaredMember) (xs : List Reach) (p m : ℕ)
              → ((i : ℕ) (a : Reach) → slice_get xs i ≡ Some a → a.from ≤ m) → m ≤ p
              → fold (reach_after p) before xs ≡ fold (reach_after m) before xs
          beyond_from before [] p m low less = refl
          beyond_from before (y ∷ ys) p m low less =
              rw (not_less p y.from (omega (arith, low 0 y refl, less)), not_less m y.from (low 0 y refl))
              (beyond_from y.nearest ys p m (λ i a at. low (suc i) a at) less)
            where
              not_less : (a b : ℕ) → b ≤ a → ltb a b ≡ false
              not_less a b h = by (ltb a b) refl
                where
                  by : (t : Bool) → ltb a b ≡ t → ltb a b ≡ false
                  by false e = e
                  by true e = absurd (omega (arith, ltb-true a b e, h))

          beyond : (xs : List Reach) (p m : ℕ) → ((i : ℕ) (a : Reach) → slice_get xs i ≡ Some a → a.from ≤ m) → m ≤ p
              → reaching xs p ≡ reaching xs m
          beyond xs p m low less = beyond_from None xs p m low less
