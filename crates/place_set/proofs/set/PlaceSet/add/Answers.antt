use Rattle.std.proofs.Common.{◌≡◌, ◌∙◌, ◌++◌, ◌∷◌, List, [], false, sym, ap}
use Rattle.place_set.specs.declared.set.Place.{Place}
use Rattle.place_set.specs.steps.Flags.{rows_of, is_flagged}
use Rattle.place_set.proofs.AddsLemmas.{adds_known, adds_new}
use Rattle.place_set.proofs.FlagsLemmas.{Rows, flag_tells, flags_kept, flags_set}
use Rattle.place_set.proofs.set.PlaceSet.add.Goals as goal

pub returns-then-is_flagged : goal.returns-then-is_flagged
returns-then-is_flagged c =
    adds_known c.args.self.now c.args.place
    ((flag_tells c.self.inside.flags.items c.self.inside.places.items c.args.self.now c.args.place c.is_flagged.result
    c.self.view_is c.self.invariant
    (c.is_flagged.ensures ∙ ap (λ (rows : Rows). is_flagged (rows_of rows) c.args.place) c.deref.ensures.value)).0
    c.if-is_flagged.true)

pub invariant_of-self : goal.invariant_of-self
invariant_of-self c =
    flags_kept c.self.inside.flags.items c.keep_room.new.flags.items c.self.inside.places.items
    c.keep_room.ensures.same c.self.invariant

pub invariant_of-self-2 : goal.invariant_of-self-2
invariant_of-self-2 c =
    let unflagged : is_flagged (rows_of c.self.inside.flags.items) c.args.place ≡ false =
    sym (ap (λ (rows : Rows). is_flagged (rows_of rows) c.args.place) c.deref.ensures.value) ∙ sym c.is_flagged.ensures
    ∙ c.if-is_flagged.false in
    flags_set c.self.inside.flags.items c.keep_room.new.flags.items c.set_flag.new.flags.items
    c.self.inside.places.items c.push.new.self.items c.args.place c.keep_room.ensures.same c.set_flag.ensures unflagged
    c.in_ok-push.ensures.items c.self.invariant

pub returns : goal.returns
returns c =
    adds_new c.args.self.now c.push.new.self.items c.args.place
    (c.in_ok-push.ensures.items
    ∙ ap (λ (places : List Place). places ++ c.args.place ∷ []) c.self.view_is)
