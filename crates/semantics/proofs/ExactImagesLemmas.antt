-- An image that holds exactly the accepted classes gives all that the proof of the headline works in.
use Rattle.std.proofs.Common.{◌≡◌, ◌<◌, ℕ, Bool, true, false, suc, List, [], ◌∷◌, Some, refl, sym, ap, arith, lt-ltb}
use Rattle.std.proofs.Common.{Contains}
use Rattle.std.specs.List.{AllByRecursion}
use Rattle.vm_state.specs.SharedState.{Region}
use Rattle.semantics.specs.Programs.{Program}
use Rattle.semantics.specs.Alone.{SettlesAlone}
use Rattle.semantics.specs.Acceptance.{Analysis, IsWave, IsLower, Accepted, Accepts}
use Rattle.semantics.specs.Images.{Image, IsExact, UsesParents}
use Rattle.semantics.specs.Lawful.{IsLawful}
use Rattle.semantics.specs.Headline.{LazyToImage, ImageToLazy}
use Rattle.semantics.proofs.BranchesLemmas.{value_in}
use Rattle.semantics.proofs.BigStepsLemmas.{small_from_big}
use Rattle.semantics.proofs.EnvironmentsLemmas.{Extends, settles-wider}
use Rattle.semantics.proofs.AcceptedRegionsLemmas.{accepted_once}
use Rattle.semantics.proofs.WavesLemmas.{wave_once, use_lower, accepted_wave}
use Rattle.semantics.proofs.SettingLemmas.{Setting, is_below, below}
use Rattle.semantics.proofs.WholeRunsLemmas.{shows_image, shows_lazy}

all_from_contains : (Q : ℕ → Type 0) (xs : List ℕ) → ((x : ℕ) → Contains xs x → Q x) → AllByRecursion Q xs
all_from_contains Q [] h = tt
all_from_contains Q (x ∷ xs) h = (
  h x (0, omega arith, refl),
  all_from_contains Q xs (λ y is. h y (suc is.0, (let k : is.0 < _ = is.1 in omega arith), is.2)),
)

module _ (P : Program) (A : Analysis) (I : Image) (lawful : IsLawful P) (parents : UsesParents P A)
    (exact : IsExact P A I) where
  -- ---- the waves of the accepted classes

  wave_at : (c : ℕ) (b : Bool) → I.holds c ≡ b → ℕ
  wave_at c true a = (accepted_wave P A c (I.region c) (exact.sound c a)).0
  wave_at c false n = 0

  wave : ℕ → ℕ
  wave c = wave_at c (I.holds c) refl

  wave_is_at : (c : ℕ) (b : Bool) (e : I.holds c ≡ b) → b ≡ true → IsWave A.uses c (wave_at c b e)
  unfolding wave_at
  wave_is_at c true a h = (accepted_wave P A c (I.region c) (exact.sound c a)).1
  wave_is_at c false n h = cc

  wave_is : (c : ℕ) → I.holds c ≡ true → IsWave A.uses c (wave c)
  unfolding wave
  wave_is c a = wave_is_at c (I.holds c) refl a

  is_below_from : (c d : ℕ) → I.holds d ≡ true → wave d < wave c → is_below I wave c d ≡ true
  is_below_from c d a lower = rw (a, lt-ltb _ _ lower)

  -- ---- what is at hand for a class is among the accepted classes of lower waves

  lower_below : (c d : ℕ) → I.holds c ≡ true → I.holds d ≡ true → IsLower A.uses d c → is_below I wave c d ≡ true
  lower_below c d ac ad (m, n, of_d, of_c, less) =
      let first : m ≡ wave d = wave_once of_d (wave_is d ad) in
      let second : n ≡ wave c = wave_once of_c (wave_is c ac) in
      is_below_from c d ad (omega arith)

  at_hand : (c : ℕ) (r : Region) → I.holds c ≡ true → Accepted P A c r → (n : ℕ) × SettlesAlone P (below I wave c) c n r
  at_hand c r ac (Accepts d region env n one allowed some lower known settles within) =
      (n, small_from_big P (below I wave c) c n r (settles-wider P env (below I wave c) wider c n r settles))
    where
      wider : Extends env (below I wave c)
      wider d s at =
          let ad : I.holds d ≡ true = exact.complete d s (known d s at) in
          rw (lower_below c d ac ad (lower d s at))
          (ap Some (sym (accepted_once P A (known d s at) (I.region d) (exact.sound d ad))))

  accepted_within : {c : ℕ} {r : Region} → Accepted P A c r → c < P.count
  accepted_within (Accepts d region env n one allowed some lower known settles within) = one

  -- a use of an accepted class is accepted
  use_accepted : (c d : ℕ) (r : Region) → Accepted P A c r → Contains (A.uses c) d → I.holds d ≡ true
  use_accepted c d r (Accepts e region env n one allowed some lower known settles within) is =
      let found : (s : Region) × (env d ≡ Some s) = value_in (env d) (some d is) in
      exact.complete d found.0 (known d found.0 found.1)

  use_below : (c d : ℕ) → I.holds c ≡ true → Contains (A.uses c) d → is_below I wave c d ≡ true
  use_below c d ac is =
      let ad : I.holds d ≡ true = use_accepted c d (I.region c) (exact.sound c ac) is in
      is_below_from c d ad (use_lower is (wave_is d ad) (wave_is c ac))

  pub setting : Setting
  setting = record {
    P = P;
    I = I;
    lawful = lawful;
    wave = wave;
    settled = λ c a. at_hand c (I.region c) a (exact.sound c a);
    parents = λ c a. all_from_contains (λ p. is_below I wave c p ≡ true) (P.parents c)
        (λ p is. use_below c p a (parents c p (accepted_within (exact.sound c a)) is));
    bound = P.count;
    bounded = λ c a. accepted_within (exact.sound c a);
  }

-- ---- the two claims

pub lazy_to_image_lem : LazyToImage
unfolding setting
lazy_to_image_lem P A I entries lawful parents exact s = shows_image (setting P A I lawful parents exact) entries s

pub image_to_lazy_lem : ImageToLazy
unfolding setting
image_to_lazy_lem P A I entries lawful parents exact s = shows_lazy (setting P A I lawful parents exact) entries s
