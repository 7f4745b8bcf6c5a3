-- What is kept of an unfinished row, and moving it to the front of the buffer.
use Prim.Native.Nat.{ℕ, ◌+◌, ◌-◌, ◌≤◌, ◌<◌, max}
use mathlib.Core.Path.{◌≡◌, sym, ap, ◌∙◌}
use mathlib.Core.List.{List, ◌++◌}
use native.Mathlib.Omega.{arith}
use lib.ListN.{length, drop, length-drop, drop_of_length-le}
use lib.Seq.{drop-drop}
use Rattle.std.specs.List.{copy_within}
use Rattle.std.proofs.lemmas.List.Edits.{paste_all}
use Rattle.rows.specs.Cut.{kept_bytes, kept, kept_from, moved_down}

-- of a row that starts at a place of a full buffer, what is kept starts where `kept_from` says
pub kept_at : (s : List ℕ) (from : ℕ) → from ≤ length s → drop (kept_from from (length s)) s ≡ kept (drop from s)
unfolding kept kept_from
kept_at s from h =
    let z : max from (length s - kept_bytes) ≡ from + (length (drop from s) - kept_bytes) = omega (arith, length-drop from s) in
    rw z (sym (drop-drop (length (drop from s) - kept_bytes) from s))

-- the bytes from a place on are moved, where there are any
module _ (l : List ℕ) (from : ℕ) where
  pub moved_some : from < length l → copy_within l from (length l) 0 ≡ moved_down from l
  unfolding moved_down
  moved_some h =
      let z : length l - from ≡ length (drop from l) = sym (length-drop from l) in
      let y : 0 + (length l - from) ≡ length (drop from l) = omega (arith, z) in
      paste_all l 0 (drop from l) (length l - from) z ∙ ap (λ (k : ℕ). drop from l ++ drop k l) y

  pub moved_none : length l ≤ from → l ≡ moved_down from l
  unfolding moved_down
  moved_none h = rw (drop_of_length-le l h)

  pub moved_count : length l - from ≡ length (drop from l)
  moved_count = sym (length-drop from l)
