use Rattle.std.proofs.Common.{◌≢◌, take}
use Rattle.std.specs.List.{All}
use Rattle.built_in.specs.Methods.{key_of_member}
use Rattle.built_in.proofs.method.first_named.Given as goal

abbrev pub invariant-loop-member : goal.invariant-loop-member
invariant-loop-member l =
    All (λ m. key_of_member m ≢ record { name = l.name; descriptor = l.descriptor }) (take l.member-index l.members)
