-- What quiet instructions leave names such objects alone as there are, and holds all of its own.
use Rattle.std.proofs.Common.{◌≡◌, ℕ, ◌<◌, ◌≤◌, ◌==◌, Bool, true, false, cond, List, ◌∷◌, inl, inr, is_some}
use Rattle.std.proofs.Common.{Option, Some, None, refl, sym, ap, ◌∙◌, subst, arith, eqb-true, eq-eqb, option_map}
use Rattle.std.proofs.lemmas.Bool.{cases_lt}
use Rattle.vm_state.specs.declared.value.Maker.{Maker}
use Rattle.vm_state.specs.declared.value.Maker.TheVariants.{Class, Thread}
use Rattle.vm_state.specs.declared.frame.Frame.{Frame}
use Rattle.vm_state.specs.SharedState.{Pool, Region, slots_at}
use Rattle.semantics.specs.Programs.{Program}
use Rattle.semantics.specs.Moves.{moved}
use Rattle.semantics.specs.Quiet.{Environment, pool_seen, QuietMove, Leaves, quiet_step}
use Rattle.semantics.specs.Settling.{constant_region, Settles}
use Rattle.semantics.specs.Alone.{RunsAlone, Over, Step, body}
use Rattle.semantics.specs.Lawful.{Names, Knows, IsLawful}
use Rattle.semantics.specs.helpers.Lawful.{KnowsFrames}
use Rattle.semantics.proofs.ConstantsLemmas.{constants_known, zeros_known}
use Rattle.semantics.proofs.FrameMovesLemmas.{moved_known}
use Rattle.semantics.proofs.KnownNamesLemmas.{Fewer, Knows-mono, KnowsSlots-mono, KnowsFrames-mono}
use Rattle.semantics.proofs.BigStepsLemmas.{steps_agree_lem}
use Rattle.region_shape.specs.Counts.{is_held, is_there, NamesObjects, AreClosed, HoldsAll}
use Rattle.region_shape.proofs.QuietValuesLemmas.{grows, keeps_all, keeps_values}

-- ---- which objects there are

abbrev counts : ℕ → Option Pool → Type 0
counts n o = is_held o n ≡ true

abbrev pool_in : Environment → ℕ → Option Pool
pool_in env d = option_map (λ (r : Region). r.pool) (env d)

-- a number of which there is an object is below the count
below : (p : Pool) (n : ℕ) → HoldsAll p → is_some (p.at n) ≡ true → n < p.count
below p n all h = elim (cases_lt n p.count) [
  | inl less ↦ less
  | inr past ↦ absurd (let clash : false ≡ true = sym (ap is_some (all.no_more n past)) ∙ h in cc)
]

-- more of the same maker
fewer_by : (env : Environment) (c : ℕ) (own other : Region) → HoldsAll own.pool → HoldsAll other.pool
    → own.pool.count ≤ other.pool.count → Fewer (is_there env c own) (is_there env c other)
fewer_by env c own other all also more x h = by x.maker h
  where
    by_class : (b : Bool) (d : ℕ) → counts x.number (cond b (Some own.pool) (pool_in env d))
        → counts x.number (cond b (Some other.pool) (pool_in env d))
    by_class true d h = also.held x.number (omega (arith, below own.pool x.number all h, more))
    by_class false d h = h

    by : (maker : Maker) → counts x.number (pool_seen env c own maker) → counts x.number (pool_seen env c other maker)
    by (Thread t) h = h
    by (Class d) h = by_class (d == c) d h

-- what a region at hand names is there for the initializer of a class that is not at hand
named_there : (env : Environment) (d c : ℕ) (r own : Region) → env d ≡ Some r → env c ≡ None
    → Fewer (is_there env d r) (is_there env c own)
named_there env d c r own at none x h = by x.maker h
  where
    in_env : (b : Bool) (e : ℕ) → (e == d) ≡ b → counts x.number (cond b (Some r.pool) (pool_in env e))
        → counts x.number (pool_in env e)
    in_env true e same h = rw (eqb-true e d same, at) h
    in_env false e same h = h

    for_own : (b : Bool) (e : ℕ) → (e == c) ≡ b → counts x.number (pool_in env e)
        → counts x.number (cond b (Some own.pool) (pool_in env e))
    for_own true e same h =
        let here : env e ≡ None = ap env (eqb-true e c same) ∙ none in
        absurd (let clash : false ≡ true = rw here at h in cc)
    for_own false e same h = h

    by : (maker : Maker) → counts x.number (pool_seen env d r maker) → counts x.number (pool_seen env c own maker)
    by (Thread t) h = h
    by (Class e) h = for_own (e == c) e refl (in_env (e == d) e refl h)

names_more : (env more : Environment) (c : ℕ) (own : Region) → Fewer (is_there env c own) (is_there more c own)
    → NamesObjects env c own → NamesObjects more c own
names_more env more c own fewer names = record {
  statics = λ k. Knows-mono (is_there env c own) (is_there more c own) fewer (own.fields k) (names.statics k);
  slots = λ n. KnowsSlots-mono (is_there env c own) (is_there more c own) fewer (slots_at own.pool n) (names.slots n);
}

-- ---- runs

-- at first there are none
first_all : (P : Program) (c : ℕ) → HoldsAll (constant_region P c).pool
first_all P c = record { held = λ n small. absurd (omega (arith, small)); no_more = λ n past. refl }

run_all : (P : Program) (env : Environment) (c : ℕ) {fs : List Frame} {own last : Region} {n : ℕ}
    → RunsAlone P env c fs own n last → HoldsAll own.pool → HoldsAll last.pool
run_all P env c Over all = all
run_all P env c (Step {f = f} {own = own} {m = m} q moves rest) all =
    run_all P env c rest (keeps_all P env c (P.row f) own 0 m q all)

-- what is left holds all objects that were made
pub settled_all : (P : Program) (env : Environment) (c n : ℕ) (region : Region) → Settles P env c n region
    → HoldsAll region.pool
settled_all P env c n region settles =
    run_all P env c ((steps_agree_lem P env c n region).0 settles) (first_all P c)

module _ (P : Program) (lawful : IsLawful P) (env : Environment) (all : AreClosed env) (c : ℕ) (none : env c ≡ None)
  where
    step_names : (f : Frame) (fs gs : List Frame) (own : Region) (m : QuietMove)
        → quiet_step P env c f own ≡ Leaves m → moved m.move f fs ≡ Some gs → NamesObjects env c own
        → HoldsAll own.pool → KnowsFrames (is_there env c own) (f ∷ fs)
        → NamesObjects env c m.region × KnowsFrames (is_there env c m.region) gs
    step_names f fs gs own m q moves names all_own frames =
        let known : Names = is_there env c m.region in
        let all_left : HoldsAll m.region.pool = keeps_all P env c (P.row f) own 0 m q all_own in
        let fewer : Fewer (is_there env c own) known =
        fewer_by env c own m.region all_own all_left (grows P env c (P.row f) own 0 m q) in
        let left = KnowsFrames-mono (is_there env c own) known fewer (f ∷ fs) frames in
        let named =
        keeps_values P env c (λ x. known x ≡ true) (Knows known) (λ n. tt) m.region.pool.count
        (λ d r at k. Knows-mono (is_there env d r) known (named_there env d c r m.region at none) (r.fields k)
        ((all d r at).statics k))
        (λ d r at n. KnowsSlots-mono (is_there env d r) known (named_there env d c r m.region at none)
        (slots_at r.pool n) ((all d r at).slots n))
        (λ k small. rw (eq-eqb c c refl) (all_left.held k small))
        (P.row f) own 0 m
        (lawful.row known (λ d. true) f left.0 (λ d e. refl))
        (λ k. Knows-mono (is_there env c own) known fewer (own.fields k) (names.statics k))
        (λ n. KnowsSlots-mono (is_there env c own) known fewer (slots_at own.pool n) (names.slots n))
        (omega arith) q in (
          record { statics = named.statics; slots = named.slots },
          moved_known known m.move f fs gs named.move left moves,
        )

    pub run_names : {fs : List Frame} {own last : Region} {n : ℕ} → RunsAlone P env c fs own n last
        → NamesObjects env c own → HoldsAll own.pool → KnowsFrames (is_there env c own) fs → NamesObjects env c last
    run_names Over names all_own frames = names
    run_names (Step {f = f} {fs = fs} {gs = gs} {own = own} {m = m} q moves rest) names all_own frames =
        let next = step_names f fs gs own m q moves names all_own frames in
        run_names rest next.0 (keeps_all P env c (P.row f) own 0 m q all_own) next.1

    first_names : NamesObjects env c (constant_region P c)
    first_names =
        let known : Names = is_there env c (constant_region P c) in
        record {
          statics = λ k. constants_known known (P.statics c) (lawful.statics c) k _
              (zeros_known known (P.statics c) (lawful.statics c) k);
          slots = λ n. tt;
        }

    first_frames : (known : Names) (o : Option Frame) → P.initializer c ≡ o → KnowsFrames known (body o)
    first_frames known None e = tt
    first_frames known (Some f) e = (lawful.initializer_names known c f e, tt)

    pub settled_names : (n : ℕ) (region : Region) → Settles P env c n region → NamesObjects env c region
    settled_names n region settles =
        run_names ((steps_agree_lem P env c n region).0 settles) first_names (first_all P c)
        (first_frames (is_there env c (constant_region P c)) (P.initializer c) refl)

-- with more regions at hand a region still names objects that there are
pub names_wider : (env more : Environment) (c : ℕ) (own : Region)
    → ((d : ℕ) (r : Region) → env d ≡ Some r → more d ≡ Some r)
    → NamesObjects env c own → NamesObjects more c own
names_wider env more c own wider names = names_more env more c own fewer names
  where
    in_more : (n e : ℕ) (o : Option Region) → env e ≡ o → counts n (pool_in env e) → counts n (pool_in more e)
    in_more n e None at h =
        absurd (let clash : false ≡ true =
        subst (λ (x : Option Region). counts n (option_map (λ (r : Region). r.pool) x)) at h in cc)
    in_more n e (Some r) at h =
        let here = subst (λ (x : Option Region). counts n (option_map (λ (r : Region). r.pool) x)) at h in
        subst (λ (x : Option Region). counts n (option_map (λ (r : Region). r.pool) x)) (sym (wider e r at)) here

    by_class : (b : Bool) (n e : ℕ) → counts n (cond b (Some own.pool) (pool_in env e))
        → counts n (cond b (Some own.pool) (pool_in more e))
    by_class true n e h = h
    by_class false n e h = in_more n e (env e) refl h

    by_maker : (maker : Maker) (n : ℕ) → counts n (pool_seen env c own maker) → counts n (pool_seen more c own maker)
    by_maker (Thread t) n h = h
    by_maker (Class e) n h = by_class (e == c) n e h

    fewer : Fewer (is_there env c own) (is_there more c own)
    fewer x h = by_maker x.maker x.number h
