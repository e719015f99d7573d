use Rattle.std.proofs.Common.{◌∙◌, ap}
use Rattle.place_set.specs.declared.set.Place.{Place}
use Rattle.place_set.specs.steps.Flags.{rows_of, is_flagged}
use Rattle.place_set.proofs.FlagsLemmas.{Rows, flag_tells}
use Rattle.place_set.proofs.set.PlaceSet.has.Goals as goal

pub returns : goal.returns
returns c =
    let place : Place = record { row = c.args.row; index = c.args.index } in
    flag_tells c.self.inside.flags.items c.self.inside.places.items c.args.self.now place c.is_flagged.result
    c.self.view_is c.self.invariant
    (c.is_flagged.ensures ∙ ap (λ (rows : Rows). is_flagged (rows_of rows) place) c.deref.ensures.value)
