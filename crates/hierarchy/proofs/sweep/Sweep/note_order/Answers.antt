use Rattle.std.proofs.Common.{◌≡◌, ℕ, ◌+◌, List, ◌++◌, ◌∷◌, [], take, get_or, sym, subst, inl, arith}
use Rattle.std.proofs.lemmas.List.{take_more, take_all}
use Rattle.hierarchy.specs.steps.Reaches.{AllTell}
use Rattle.hierarchy.specs.steps.Sweeps.{members_of}
use Rattle.hierarchy.proofs.OrderWalkLemmas.{HasAllAbove, all_above_next, stands_behind, last_next, next_may}
use Rattle.hierarchy.proofs.sweep.Sweep.note_order.Goals as goal

pub enter-requires-clause-behind : goal.enter-requires-clause-behind
enter-requires-clause-behind c =
    let s = c.args.self.now in
    let may = next_may s.family.now c.loop-place.before s.order.now c.loop-place.place (omega arith)
    c.loop-place.invariant.ordered in
    let stands = stands_behind s.family.now s.order.now s.places.now c.loop-place.place
    (get_or s.order.now c.loop-place.place 0) c.loop-place.before (omega arith) c.requires.once c.requires.places
    c.loop-place.invariant.all may.0 c.loop-place.invariant.last in
    record {
      family = c.requires.family;
      comes = record {
        fits = c.requires.fits;
        rows = c.loop-place.invariant.rows;
        stands = stands;
        tell = λ k name are. inl (c.loop-place.invariant.tell k name are);
      };
      may = may.0;
    }

pub loop-place-preserved : goal.loop-place-preserved
loop-place-preserved c =
    let s = c.args.self.now in
    let p = c.loop-place.place in
    let before = c.loop-place.invariant in
    let may = next_may s.family.now c.loop-place.before s.order.now p (omega arith) before.ordered in
    let is : take (p + 1) s.order.now ≡ take p s.order.now ++ get_or s.order.now p 0 ∷ [] =
    take_more s.order.now p 0 (omega arith) in
    record {
      rows = c.in_ok-enter.ensures.rows;
      tell = subst (λ (l : List ℕ). AllTell (members_of s) l c.enter.new.rows) (sym is)
          c.in_ok-enter.ensures.tell;
      last = last_next s.order.now p (omega arith);
      all = subst (HasAllAbove s.family.now) (sym is)
          (all_above_next s.family.now (take p s.order.now) c.loop-place.before
          (get_or s.order.now p 0) before.all may.0
          before.last);
      ordered = may.1;
    }

pub returns : goal.returns
returns c =
    subst (λ (l : List ℕ). AllTell (members_of c.args.self.now) l c.loop-place.rows)
    (take_all c.loop-place.place c.args.self.now.order.now (omega arith)) c.loop-place.invariant.tell
