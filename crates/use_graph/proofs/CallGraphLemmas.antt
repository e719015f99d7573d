-- A graph of all calls, made method by method.
use Rattle.std.proofs.Common.{◌≡◌, ◌⊎◌, ℕ, ◌+◌, ◌<◌, ◌≤◌, List, length, take, Some, slice_get}
use Rattle.std.proofs.Common.{get_or, sym, ap, subst, ◌∙◌, inl, inr, arith}
use Rattle.std.specs.List.{Contains}
use Rattle.std.proofs.lemmas.List.{take_more}
use Rattle.std.proofs.lemmas.Option.{slice_get_within}
use Rattle.std.proofs.lemmas.Grind.{common_steps}
use Rattle.std.proofs.lemmas.List.Elements.{Contains-get_or, Contains-push_cases}
use Rattle.graph.specs.Rows.{Rows}
use Rattle.graph.specs.Seen.{Seen}
use Rattle.program.specs.Tables.{Tables}
use Rattle.hierarchy.specs.declared.member.DeclaredMember.{DeclaredMember}
use Rattle.use_graph.specs.declared.code.Deed.{Deed}
use Rattle.use_graph.specs.Code.{MayRunFor}
use Rattle.use_graph.specs.steps.Deeds.{deeds_in, CallsBy}
use Rattle.use_graph.specs.steps.CallGraphs.{IsCallGraph}
use Rattle.use_graph.specs.steps.Growing.{IsGrowing, GrowsBy, IsCaller, LeadsToAll, LeadsByBody, LeadsByNumber}
use Rattle.use_graph.proofs.DeedsLemmas.{calls_found}
use Rattle.use_graph.proofs.PartsLemmas.{leads_kept, no_step, two_steps, leading}

module _ (P : Tables) (methods : List DeclaredMember) where
  -- ---- the calls of one body, one after another

  abbrev pub Led : Rows → Rows → Seen → ℕ → List Deed → ℕ → Type 0
  Led old graph groups from deeds i =
      GrowsBy P methods old graph groups (LeadsToAll methods graph from (CallsBy P (take i deeds)))

  none_first : (deeds : List Deed) (k : ℕ) → k < length (take 0 deeds) → ⊥
  none_first deeds k small = grind (arith, common_steps)

  pub led_none : (graph : Rows) (groups : Seen) (from : ℕ) (deeds : List Deed) → IsGrowing P methods graph groups
      → Led graph graph groups from deeds 0
  led_none graph groups from deeds growing =
      no_step growing (λ e j (deed, (k, small, at), may) number. absurd (none_first deeds k small))

  -- who makes the calls of some instructions makes that of one of them
  pub calls_one : {old graph : Rows} {before groups : Seen} {from : ℕ} (deeds : List Deed) (i : ℕ) (d : Deed)
      → i < length deeds → IsCaller P methods old before from (CallsBy P deeds) → IsGrowing P methods graph groups
      → IsCaller P methods graph groups from (MayRunFor P (get_or deeds i d).callee)
  calls_one deeds i d small whole growing = record {
    growing = growing;
    caller = whole.caller;
    from = whole.from;
    calls = λ e j may. whole.calls e j (get_or deeds i d, Contains-get_or deeds i d small, may);
  }

  pub led_more : (old graph new : Rows) (groups more : Seen) (from : ℕ) (deeds : List Deed) (i : ℕ) (d : Deed)
      → i < length deeds → Led old graph groups from deeds i
      → GrowsBy P methods graph new more (LeadsToAll methods new from (MayRunFor P (get_or deeds i d).callee))
      → Led old new more from deeds (i + 1)
  led_more old graph new groups more from deeds i d small led step = leading (two_steps led step)
      (λ e j (deed, among, may) number. elim (Contains-push_cases (take i deeds) (get_or deeds i d) deed
      (subst (λ (l : List Deed). Contains l deed) (take_more deeds i d small) among)) [
        | inl low ↦ leads_kept P methods graph new from e j step.grows (led.leads e j (deed, low, may) number)
        | inr same ↦ step.leads e j (subst (λ (x : Deed). MayRunFor P x.callee e j) (sym same) may) number
      ])

  -- a body's calls are those of its instructions
  pub led_body : (graph : Rows) (from : ℕ) (m : DeclaredMember) (deeds : List Deed)
      → deeds ≡ deeds_in P m.class m.index → LeadsToAll methods graph from (CallsBy P deeds)
      → LeadsByBody P methods graph from m
  led_body graph from m deeds is leads e j calls number =
      leads e j (subst (λ (l : List Deed). CallsBy P l e j) (sym is) (calls_found P m.class m.index e j calls)) number

  pub leads_of_number : (graph : Rows) (n : ℕ) (m : DeclaredMember) → slice_get methods n ≡ Some m
      → LeadsByBody P methods graph n m → LeadsByNumber P methods graph n
  leads_of_number graph n m at leads x here =
      let two : Some m ≡ Some x = sym at ∙ here in
      let is : m ≡ x = cc in
      subst (λ (y : DeclaredMember). LeadsByBody P methods graph n y) is leads

  -- ---- the bodies of all methods

  pub record Done (graph : Rows) (groups : Seen) (limit : ℕ) : Type 0 where
    pub growing : IsGrowing P methods graph groups
    pub leads : (n : ℕ) (m : DeclaredMember) → n < limit → slice_get methods n ≡ Some m
        → LeadsByBody P methods graph n m

  decide : (n limit : ℕ) → n < limit + 1 → (n < limit) ⊎ (n ≡ limit)
  decide n limit low = grind arith

  pub done_more : {old new : Rows} {groups more : Seen} {limit : ℕ} → Done old groups limit
      → GrowsBy P methods old new more (LeadsByNumber P methods new limit) → Done new more (limit + 1)
  done_more {old} {new} {groups} {more} {limit} done step = record {
    growing = step.growing;
    leads = λ n x low here. elim (decide n limit low) [
      | inl less ↦ (λ e j calls number. leads_kept P methods old new n e j step.grows
          (done.leads n x less here e j calls number))
      | inr same ↦ subst (λ (v : ℕ). LeadsByBody P methods new v x) (sym same)
          (step.leads x (ap (slice_get methods) (sym same) ∙ here))
    ];
  }

  pub done_all : (graph : Rows) (groups : Seen) (limit : ℕ) → length methods ≤ limit → Done graph groups limit
      → IsCallGraph P methods graph
  done_all graph groups limit whole done = record {
    vertices = done.growing.part.vertices;
    sound = done.growing.part.sound;
    complete = λ n d k e j at calls number.
        done.leads n (record { class = d; index = k }) (within n (record { class = d; index = k }) at) at e j calls
        number;
  }
    where
      within : (n : ℕ) (m : DeclaredMember) → slice_get methods n ≡ Some m → n < limit
      within n m at = (let low = slice_get_within methods n m at in omega arith)
