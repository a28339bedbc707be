-- What holds of records in the order of their keys. Assumes nothing.
use Rattle.std.specs.Prelude.{◌≡◌, ℕ, ◌+◌, ◌⊎◌, List, length, ◌≢◌}
use Rattle.chains.specs.Records.{In, Lacks, Ascends, insert, without, replace}

-- the laws of chains whose keys ascend
pub record ChainLaws {R : Type 0} (key : R → ℕ) : Type 0 where
  -- a key belongs to one record
  pub distinct : (rs : List R) (r s : R) → Ascends key rs → In r rs → In s rs → key r ≡ key s → r ≡ s
  -- the keys still ascend with one record more, one fewer, and another in the place of one
  pub insert_ascends : (r : R) (rs : List R) → Ascends key rs → Lacks key (key r) rs → Ascends key (insert key r rs)
  pub without_ascends : (k : ℕ) (rs : List R) → Ascends key rs → Ascends key (without key k rs)
  pub replace_ascends : (r : R) (rs : List R) → Ascends key rs → Ascends key (replace key r rs)
  -- which records then stand
  pub insert_adds : (r x : R) (rs : List R) → (In x (insert key r rs) → (x ≡ r) ⊎ In x rs) × ((x ≡ r) ⊎ In x rs → In x (insert key r rs))
  pub without_takes : (k : ℕ) (x : R) (rs : List R) → Ascends key rs → (In x (without key k rs) → (key x ≢ k) × In x rs) × ((key x ≢ k) × In x rs → In x (without key k rs))
  -- and how many
  pub insert_counts : (r : R) (rs : List R) → length (insert key r rs) ≡ length rs + 1
  pub without_counts : (k : ℕ) (rs : List R) → (Lacks key k rs → ⊥) → length (without key k rs) + 1 ≡ length rs
