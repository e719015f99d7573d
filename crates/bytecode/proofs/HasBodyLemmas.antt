-- Each code has a body.
use Rattle.std.proofs.Common.{ℕ, zero, suc, ◌+◌, ◌≤◌, ◌^◌, ◌<◌, List, [], ◌∷◌, ◌++◌, length, drop, map, Some, None}
use Rattle.std.proofs.Common.{refl, arith, inl}
use Rattle.std.proofs.lemmas.List.{length-drop}
use Rattle.std.proofs.lemmas.List.Elements.{All-drop}
use Rattle.bytecode.specs.declared.decoded.Decoded.{Decoded}
use Rattle.bytecode.specs.declared.placed.Placed.{Placed}
use Rattle.bytecode.specs.Body.{IsBody, IsSwept, LeadsTo, starts_of}
use Rattle.bytecode.specs.reading.Decoded.{IsDecoded}
use Rattle.bytecode.specs.reading.Places.{placed_item}
use Rattle.bytecode.specs.reading.SweptTargets.{Names}
use Rattle.bytecode.proofs.AllCausesLemmas.{all_decided}
use Rattle.bytecode.proofs.BodyLemmas.{ends_bad, goes_on}
use Rattle.bytecode.proofs.DecidedLemmas.{Bytes, Decided, more_bytes}
use Rattle.bytecode.proofs.PlacesLemmas.{placed_body}

abbrev Swept : List ℕ → Type 0
Swept code = (items : List Placed) × IsSwept Names code items

sweep : (n : ℕ) (code rest : List ℕ) (items : List Placed) (pc : ℕ) → length rest ≤ n → Bytes rest
    → LeadsTo Names 0 code items pc rest → Swept code
sweep n code [] items pc few all leads = (
  items ++ [],
  record {
    front = items;
    last = [];
    end' = pc;
    rest = [];
    leads = leads;
    ends = inl (refl, refl);
    whole = refl;
  },
)
sweep zero code (b ∷ rest) items pc few all leads = absurd (omega arith)
sweep (suc n) code (b ∷ rest) items pc few all leads =
    by (all_decided pc b rest (more_bytes b rest all)) (λ d is. sweep n code (drop d.length (b ∷ rest))
    (items ++ (record { pc = pc; instruction = d.instruction }) ∷ []) (pc + d.length)
    (let left = length-drop d.length (b ∷ rest) in omega (arith, is.positive, is.within))
    (All-drop (λ byte. byte < 2 ^ 8) d.length (b ∷ rest) all) (goes_on code (b ∷ rest) items pc d leads is))
  where
    by : Decided pc (b ∷ rest) → ((d : Decoded) → IsDecoded pc (b ∷ rest) d → Swept code) → Swept code
    by (None, cause) more = (_, ends_bad code (b ∷ rest) items pc leads cause)
    by (Some d, is) more = more d is

pub body_of : (code : List ℕ) → Bytes code → (body : List Placed) × IsBody code body
body_of code all =
    let (items, swept) = sweep (length code) code code [] 0 (omega arith) all (refl, refl) in
    (map (placed_item (starts_of items)) items, placed_body code items _ swept refl)
