use Rattle.std.proofs.Common.{◌≡◌, ℕ, List, inl, inr, sym, subst}
use Rattle.built_in.specs.Keys.{NameAndType}
use Rattle.hierarchy.specs.steps.MemberKeys.{AreNumbers}
use Rattle.hierarchy.specs.steps.Reaches.{Tells, reaches_of}
use Rattle.hierarchy.specs.steps.Sweeps.{Comes, came, own_in}
use Rattle.hierarchy.specs.declared.member_key.MemberKey.{MemberKey}
use Rattle.hierarchy.specs.declared.reach_table.Reach.{Reach}
use Rattle.hierarchy.proofs.ReachesLemmas.{ends_by_key, ends_of_key, tells_by_key}
use Rattle.hierarchy.proofs.sweep.Sweep.note.Goals as goal

pub returns-then-ends_at-clause-noted : goal.returns-then-ends_at-clause-noted
returns-then-ends_at-clause-noted c = c.ends_at.ensures.0 c.if-ends_at.true

pub returns-clause-notes : goal.returns-clause-notes
returns-clause-notes c =
    let s = c.args.self.now in
    let key = c.args.key in
    let old = c.args.rows.now in
    let comes = c.requires.comes in
    let classes : List ℕ = came s c.args.place in
    let own = λ (name : NameAndType) (are : AreNumbers s.table.now.texts name key).
    elim (c.requires.own name are) as (λ _. own_in s name c.args.class ≡ c.args.own) [
      | inl noted ↦ absurd (let yes = c.ends_at.ensures.1 (noted key are) in cc (yes, c.if-ends_at.false))
      | inr is ↦ is
    ] in
    let next : Comes s c.push.new.self c.args.class c.args.place = record {
      fits = comes.fits;
      rows = c.in_ok-push.ensures.table;
      stands = comes.stands;
      tell = λ k name are. tells_by_key s.family.now (own_in s name) classes c.args.class key k (reaches_of old k)
          (reaches_of c.push.new.self k) c.args.place c.nearest-nearest.result comes.stands.count
          (c.in_ok-push.ensures.rows k)
          (λ equal tells. c.nearest-nearest.ensures name classes c.args.place comes.stands
          (subst (λ (q : MemberKey). Tells s.family.now (own_in s name) classes (reaches_of old q)) (sym equal) tells)
          (own name (subst (λ (q : MemberKey). AreNumbers s.table.now.texts name q) (sym equal) are)))
          (comes.tell k name are);
    } in
    let reach : Reach = record { from = c.args.place; nearest = c.nearest-nearest.result } in
    record {
      comes = next;
      keeps = λ k ends. ends_by_key key k (reaches_of old k) (reaches_of c.push.new.self k) reach
          (c.in_ok-push.ensures.rows k) ends;
    }

pub returns-clause-noted : goal.returns-clause-noted
returns-clause-noted c =
    let reach : Reach = record { from = c.args.place; nearest = c.nearest-nearest.result } in
    ends_of_key c.args.key (reaches_of c.args.rows.now c.args.key) (reaches_of c.push.new.self c.args.key) reach
    (c.in_ok-push.ensures.rows c.args.key)
