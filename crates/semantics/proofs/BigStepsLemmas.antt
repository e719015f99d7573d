-- Big steps and small steps of an initializer agree: a run alone is the innermost frame's whole body, and then a run of
-- its callers.
use Rattle.std.proofs.Common.{◌≡◌, ℕ, zero, suc, ◌+◌, ◌≤◌, List, [], ◌∷◌, Option, Some, None, option_map}
use Rattle.std.proofs.Common.{refl, sym, ap, subst, subst₂, add-zero, arith}
use Rattle.vm_state.specs.declared.value.Value.{Value}
use Rattle.vm_state.specs.declared.frame.Frame.{Frame}
use Rattle.vm_state.specs.SharedState.{Region}
use Rattle.semantics.specs.Moves.{with_operands, received, returned}
use Rattle.semantics.specs.Programs.{Program}
use Rattle.semantics.specs.Quiet.{Environment}
use Rattle.semantics.specs.Settling.{constant_region, RunsBody, ByReturn, ByStep, ByCall, SettlesBy, Settles}
use Rattle.semantics.specs.Alone.{RunsAlone, Over, Step, body, SettlesAlone, StepsAgree}
use Rattle.semantics.proofs.TestsLemmas.{from_some}
use Rattle.semantics.proofs.FrameMovesLemmas.{Back, On, Down, way_of, onward_moved, moves_as}

module _ (P : Program) (env : Environment) (c : ℕ) where
  -- ---- from big steps to small ones

  at_cost : {fs : List Frame} {own last : Region} {n k : ℕ} → RunsAlone P env c fs own n last → n ≡ k
      → RunsAlone P env c fs own k last
  at_cost {fs = fs} {own = own} {last = last} run same =
      subst (λ (cost : ℕ). RunsAlone P env c fs own cost last) same run

  -- a body, and then a run alone of the frames to which it returns, are a run alone
  pub alone_from_body : {f : Frame} {own back last : Region} {n k : ℕ} {v : Option Value}
      → RunsBody P env c f own n v back →
      (fs : List Frame) {gs : List Frame} → returned v fs ≡ Some gs → RunsAlone P env c gs back k last →
      RunsAlone P env c (f ∷ fs) own (n + k) last
  alone_from_body (ByReturn {f = f} moves is) fs leads rest = Step moves (moves_as f fs is leads) rest
  alone_from_body (ByStep {f = f} {g = g} {m = m} moves is on) fs leads rest =
      at_cost (Step moves (onward_moved m.move f g fs is) (alone_from_body on fs leads rest)) (omega arith)
  alone_from_body (ByCall {f = f} {operands = operands} moves is called room on) fs leads rest =
      at_cost (Step moves (moves_as f fs is refl) (alone_from_body called (with_operands f operands ∷ fs)
      (ap (option_map (λ back. back ∷ fs)) room) (alone_from_body on fs leads rest))) (omega arith)

  -- ---- from small steps to big ones

  -- A run alone, as the whole body of the innermost frame and a run alone of the frames to which it returns.
  record Split (f : Frame) (fs : List Frame) (own : Region) (n : ℕ) (last : Region) : Type 0 where
    value : Option Value
    frames : List Frame
    region : Region
    cost : ℕ
    more : ℕ
    whole : RunsBody P env c f own cost value region
    leads : returned value fs ≡ Some frames
    rest : RunsAlone P env c frames region more last
    in_all : n ≡ cost + more

  -- a value returned finds its caller
  caller_of : (v : Option Value) (g : Frame) (fs gs : List Frame) → returned v (g ∷ fs) ≡ Some gs →
      (back : Frame) × (received v g ≡ Some back) × (gs ≡ back ∷ fs)
  caller_of v g fs gs leads = by_room (received v g) refl leads
    where
      by_room : (o : Option Frame) → received v g ≡ o → option_map (λ back. back ∷ fs) o ≡ Some gs →
          (back : Frame) × (received v g ≡ Some back) × (gs ≡ back ∷ fs)
      by_room None is e = cc
      by_room (Some back) is e = (back, is, sym (from_some e))

  run_of : {fs gs : List Frame} {own last : Region} {n : ℕ} → fs ≡ gs → RunsAlone P env c fs own n last
      → RunsAlone P env c gs own n last
  run_of {own = own} {last = last} {n = n} same run =
      subst (λ (hs : List Frame). RunsAlone P env c hs own n last) same run

  -- a run alone that costs `most` at most
  split_within : (most : ℕ) {f : Frame} {fs : List Frame} {own last : Region} {n : ℕ} →
      RunsAlone P env c (f ∷ fs) own n last → n ≤ most → Split f fs own n last
  split_within zero (Step moves leads rest) within = absurd (omega arith)
  split_within (suc most) (Step {f = f} {fs = fs} {gs = gs} {m = m} {n = k} moves leads rest) within =
      elim (way_of m.move f fs gs leads) [
        | Back v is ends ↦ record {
          value = v;
          frames = gs;
          region = m.region;
          cost = 1 + m.elements;
          more = k;
          whole = ByReturn moves is;
          leads = ends;
          rest = rest;
          in_all = refl;
        }
        | On g is same ↦
            let tail = split_within most (run_of same rest) (omega arith) in
            record {
              value = tail.value;
              frames = tail.frames;
              region = tail.region;
              cost = 1 + m.elements + tail.cost;
              more = tail.more;
              whole = ByStep moves is tail.whole;
              leads = tail.leads;
              rest = tail.rest;
              in_all = omega (arith, tail.in_all);
            }
        | Down operands callee is same ↦
            let call = split_within most (run_of same rest) (omega arith) in
            let caller = caller_of call.value (with_operands f operands) fs call.frames call.leads in
            let tail = split_within most (run_of caller.2 call.rest) (omega (arith, call.in_all)) in
            record {
              value = tail.value;
              frames = tail.frames;
              region = tail.region;
              cost = 1 + m.elements + (call.cost + tail.cost);
              more = tail.more;
              whole = ByCall moves is call.whole caller.1 tail.whole;
              leads = tail.leads;
              rest = tail.rest;
              in_all = omega (arith, call.in_all, tail.in_all);
            }
      ]

  over : {own last : Region} {n : ℕ} {fs : List Frame} → [] ≡ fs → RunsAlone P env c fs own n last → (n ≡ 0)
      × (own ≡ last)
  over none Over = (refl, refl)
  over none (Step moves leads rest) = cc

  -- a run alone of one frame is its whole body
  pub body_from_alone : {f : Frame} {own last : Region} {n : ℕ} → RunsAlone P env c (f ∷ []) own n last →
      (v : Option Value) × RunsBody P env c f own n v last
  body_from_alone {f = f} {own = own} {n = n} run =
      let split = split_within n run (omega arith) in
      let end = over (from_some split.leads) split.rest in (
        split.value,
        subst₂ (λ (k : ℕ) (r : Region). RunsBody P env c f own k split.value r)
            (omega (arith, split.in_all, end.0)) end.1 split.whole,
      )

-- ---- initializers

pub small_from_big : (P : Program) (env : Environment) (c n : ℕ) (region : Region) →
    Settles P env c n region → SettlesAlone P env c n region
small_from_big P env c n region = by_body (P.initializer c)
  where
    by_body : (o : Option Frame) → SettlesBy P env c o n region
        → RunsAlone P env c (body o) (constant_region P c) n region
    by_body None (none, same) = subst₂ (RunsAlone P env c [] (constant_region P c)) (sym none) same Over
    by_body (Some f) (v, whole) = at_cost P env c (alone_from_body P env c whole [] refl Over) (add-zero n)

pub big_from_small : (P : Program) (env : Environment) (c n : ℕ) (region : Region) →
    SettlesAlone P env c n region → Settles P env c n region
big_from_small P env c n region = by_body (P.initializer c) n region
  where
    by_body : (o : Option Frame) (k : ℕ) (last : Region) →
        RunsAlone P env c (body o) (constant_region P c) k last → SettlesBy P env c o k last
    by_body None k last Over = (refl, refl)
    by_body (Some f) k last run = body_from_alone P env c run

pub steps_agree_lem : StepsAgree
steps_agree_lem P env c n region = (small_from_big P env c n region, big_from_small P env c n region)
