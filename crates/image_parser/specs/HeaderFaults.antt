-- The frame of an image: magic number, version and digest; and what is wrong with it first.
use Rattle.std.specs.Prelude.{◌≡◌, ◌≢◌, ℕ, ◌≤◌, ◌<◌, ◌-◌, List, ◌++◌, length, take, drop}
use Rattle.sha2.specs.Sha256.{sha256}
use Rattle.classfile.specs.Spelling.{u2, u4}
use Rattle.image_format.specs.declared.version.Version.{Version}
use Rattle.image_format.specs.Texts.{with_digest, version_number}
use Rattle.image_parser.specs.declared.header.HeaderFault.{HeaderFault}
use Rattle.image_parser.specs.declared.header.HeaderFault.TheVariants as faults

-- The parts of an image of this version, with what stands before and after them: there are 42 bytes at least.
pub record IsFramed (bytes : List ℕ) (version : Version) (parts : List ℕ) : Type 0 where
  pub size : 42 ≤ length bytes
  pub framed : bytes ≡ with_digest (u4 1246775629 ++ (u2 (version_number version) ++ parts))

abbrev pub IsFrame : List ℕ → Version × List ℕ → Type 0
IsFrame bytes x = IsFramed bytes x.0 x.1

-- all but the last 32 bytes, and these; of the former the first four bytes, and the two after them
abbrev pub front_in : List ℕ → List ℕ
front_in bytes = take (length bytes - 32) bytes

abbrev pub digest_in : List ℕ → List ℕ
digest_in bytes = drop (length bytes - 32) bytes

abbrev pub magic_in : List ℕ → List ℕ
magic_in bytes = take 4 (front_in bytes)

abbrev pub version_in : List ℕ → List ℕ
version_in bytes = take 2 (drop 4 (front_in bytes))

-- The last 32 bytes are the digest of all before.
abbrev pub IsSealed : List ℕ → Type 0
IsSealed bytes = digest_in bytes ≡ sha256 (front_in bytes)

-- what is wrong first
pub data HeaderFails (bytes : List ℕ) : HeaderFault → Type 0 where
  truncated : length bytes < 42 → HeaderFails bytes faults.Truncated
  magic : 42 ≤ length bytes → magic_in bytes ≢ u4 1246775629 → HeaderFails bytes faults.Magic
  version : 42 ≤ length bytes → magic_in bytes ≡ u4 1246775629
      → ((v : Version) → version_in bytes ≢ u2 (version_number v)) → HeaderFails bytes faults.Version
  digest : 42 ≤ length bytes → magic_in bytes ≡ u4 1246775629 → (v : Version)
      → version_in bytes ≡ u2 (version_number v) → digest_in bytes ≢ sha256 (front_in bytes)
      → HeaderFails bytes faults.Digest
