-- A run from an image, and one from the image without the objects that no static field reaches, show the same.
use Rattle.std.proofs.Common.{◌≡◌, ◌∙◌, ◌⊎◌, inl, inr, ℕ, ◌≤◌, Bool, true, false, not, ◌&&◌, nat_lt, Option, Some}
use Rattle.std.proofs.Common.{None, is_some, option_map, refl, sym, ap, subst}
use Rattle.std.proofs.Math.Bool.{and-false}
use Rattle.std.proofs.lemmas.Bool.{ltb-false}
use Rattle.vm_state.specs.declared.object.Object.{Object}
use Rattle.vm_state.specs.declared.value.Maker.{Maker}
use Rattle.vm_state.specs.declared.value.Maker.TheVariants.{Class, Thread}
use Rattle.vm_state.specs.declared.value.Value.{Value}
use Rattle.vm_state.specs.SharedState.{Pool, Region, slots_at}
use Rattle.vm_state.proofs.ListLemmas.{tested}
use Rattle.semantics.specs.Drops.{keeps, keeps_by, IsPartOf, NamesKept}
use Rattle.semantics.specs.Images.{Image as Start}
use Rattle.semantics.specs.Lawful.{Knows, KnowsSlots}
use Rattle.semantics.specs.Quiet.{Environment, pool_seen}
use Rattle.semantics.proofs.BranchesLemmas.{value_in}
use Rattle.semantics.proofs.DroppedRunsLemmas.{dropped_unseen_lem}
use Rattle.semantics.proofs.KnownNamesLemmas.{Fewer, Knows-mono, KnowsSlots-mono}
use Rattle.program.specs.Programs.{IsProgram}
use Rattle.program.specs.Tables.{Tables}
use Rattle.machine.specs.Linked.{program_of}
use Rattle.machine.proofs.LawsLemmas.{table_is_lawful_lem}
use Rattle.region_shape.specs.Counts.{is_held, is_there}
use Rattle.region_shape.specs.Wholes.{AreWhole}
use Rattle.object_graph.specs.Cuts.{IsCutRegion, IsCutAt, IsCutOf, CutUnseen}
use Rattle.object_graph.specs.declared.name_set.ObjectName.{ObjectName}
use Rattle.object_graph.specs.Images.{region_or, start_of}
use Rattle.object_graph.specs.Reached.{IsReached}
use Rattle.object_graph.proofs.CutsLemmas.{whole_at, part_whole, seen_as}

-- what a region keeps of its class's names, where it is in an image or not
abbrev keeps_in : Bool → Region → ℕ → Bool
keeps_in b r n = not (b && (nat_lt n r.pool.count && not (is_some (r.pool.at n))))

held_or_past : (r : Region) (n : ℕ) → keeps_in true r n ≡ true
    → ((o : Object) × (r.pool.at n ≡ Some o)) ⊎ (r.pool.count ≤ n)
held_or_past r n kept = elim (tested (nat_lt n r.pool.count)) [
  | inl low ↦ inl (by (r.pool.at n) refl (rw low at kept))
  | inr past ↦ inr (ltb-false n r.pool.count past)
]
  where
    by : (o : Option Object) → r.pool.at n ≡ o → not (not (is_some o)) ≡ true
        → (x : Object) × (r.pool.at n ≡ Some x)
    by None at h = cc
    by (Some x) at h = (x, at)

pub same_some : (These : ObjectName → Type 0) (c : ℕ) (w p : Option Region) → IsCutAt These c w p
    → is_some p ≡ is_some w
same_some These c None None is = refl
same_some These c None (Some p) is = absurd is
same_some These c (Some w) None is = absurd is
same_some These c (Some w) (Some p) is = refl

module _ (P : Tables) (program : IsProgram P) (W V : Environment) (fits : AreWhole P W) (is : IsCutOf P W V)
  where
    abbrev whole : Start
    whole = start_of P W

    abbrev part : Start
    part = start_of P V

    -- the region of a class of the image, with the whole one
    record Both (c : ℕ) : Type 0 where
      left : Region
      here : V c ≡ Some left
      all : Region
      there : W c ≡ Some all
      cut : IsCutRegion (IsReached P W) c all left
      is_part : part.region c ≡ left
      is_whole : whole.region c ≡ all

    both : (c : ℕ) → part.holds c ≡ true → Both c
    both c held =
        let (s, at) = value_in (V c) held in
        let (r, there, cut) = whole_at P program W V fits is c s at in
        record {
          left = s;
          here = at;
          all = r;
          there = there;
          cut = cut;
          is_part = ap (region_or _) at;
          is_whole = ap (region_or _) there;
        }

    left_whole : AreWhole P V
    left_whole = part_whole P program W V fits is

    -- ---- the image without these objects is part of the whole one

    objects_same : (c n : ℕ) → part.holds c ≡ true → keeps_by part (Class c) n ≡ true
        → (part.region c).pool.at n ≡ (whole.region c).pool.at n
    objects_same c n held kept =
        let b = both c held in
        let here : keeps_in true b.left n ≡ true =
        subst (λ (r : Region). keeps_in true r n ≡ true) b.is_part
        (subst (λ (t : Bool). keeps_in t (part.region c) n ≡ true) held kept) in
        let same : b.left.pool.at n ≡ b.all.pool.at n =
        elim (held_or_past b.left n here) [
          | inl some ↦ b.cut.kept n (b.cut.only n some.0 some.1)
          | inr past ↦
              (left_whole.shape c b.left b.here).no_more n past
              ∙ sym ((fits.shape c b.all b.there).no_more n
              (subst (λ (k : ℕ). k ≤ n) b.cut.count past))
        ] in
        ap (λ (r : Region). r.pool.at n) b.is_part ∙ (same ∙ ap (λ (r : Region). r.pool.at n) (sym b.is_whole))

    is_part : IsPartOf part whole
    is_part = record {
      holds = λ c. same_some (IsReached P W) c (W c) (V c) (is c);
      fields = λ c f held.
          let b = both c held in
          ap (λ (r : Region). r.fields f) b.is_part
          ∙ (ap (λ (g : ℕ → Value). g f) b.cut.fields ∙ ap (λ (r : Region). r.fields f) (sym b.is_whole));
      counts = λ c held.
          let b = both c held in
          ap (λ (r : Region). r.pool.count) b.is_part
          ∙ (b.cut.count ∙ ap (λ (r : Region). r.pool.count) (sym b.is_whole));
      objects = objects_same;
    }

    -- ---- it names kept objects alone

    held_kept : (d n : ℕ) → is_held (option_map (λ (r : Region). r.pool) (V d)) n ≡ true
        → keeps_by part (Class d) n ≡ true
    held_kept d n h = by (V d) refl
      where
        by : (o : Option Region) → V d ≡ o → keeps_by part (Class d) n ≡ true
        by None none =
            absurd (let clash : false ≡ true =
            subst (λ (o : Option Region). is_held (option_map (λ (r : Region). r.pool) o) n ≡ true) none h in cc)
        by (Some r) some =
            let there : is_some (r.pool.at n) ≡ true =
            subst (λ (o : Option Region). is_held (option_map (λ (x : Region). x.pool) o) n ≡ true) some h in
            rw (some, there, and-false (nat_lt n r.pool.count)) refl

    fewer : (c : ℕ) (s : Region) → V c ≡ Some s → Fewer (is_there V c s) (keeps part)
    fewer c s at x h = by x.maker h
      where
        by : (m : Maker) → is_held (pool_seen V c s m) x.number ≡ true
            → keeps_by part m x.number ≡ true
        by (Thread t) h = cc
        by (Class d) h =
            held_kept d x.number
            (subst (λ (o : Option Pool). is_held o x.number ≡ true) (seen_as V c s at d) h)

    names_kept : NamesKept part
    names_kept = record {
      statics = λ c f held.
          let b = both c held in
          subst (λ (r : Region). Knows (keeps part) (r.fields f)) (sym b.is_part)
          (Knows-mono (is_there V c b.left) (keeps part) (fewer c b.left b.here) (b.left.fields f)
          ((left_whole.closed c b.left b.here).statics f));
      slots = λ c n held.
          let b = both c held in
          subst (λ (r : Region). KnowsSlots (keeps part) (slots_at r.pool n)) (sym b.is_part)
          (KnowsSlots-mono (is_there V c b.left) (keeps part) (fewer c b.left b.here)
          (slots_at b.left.pool n) ((left_whole.closed c b.left b.here).slots n));
    }

pub cut_unseen_lem : CutUnseen
cut_unseen_lem P W V entries program fits is s =
    dropped_unseen_lem (program_of P) (whole P program W V fits is) (part P program W V fits is) entries
    (table_is_lawful_lem P program) (is_part P program W V fits is) (names_kept P program W V fits is) s
