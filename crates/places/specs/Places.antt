-- The places of a series, and which of them are an account's. A place is an index into the arrays of a series; an account is none. All
-- are shut: outside this crate they are read by the laws of proofs/Places.antt, so that a place is never taken for an account.
use Rattle.std.specs.Prelude.{Bool, false, List, ℕ, ◌*◌, ◌≤◌, ℤ, get_or}
use Rattle.integer.specs.Table.{at}
use Rattle.terms.specs.Bounds.{accounts}
use Rattle.places.specs.Sections.{place_among, account_among, section_among, sum_among, gross_among}

-- "Every account has two sections, 0 and 1."
abbrev pub sections : ℕ
sections = 2

-- "A place is an account's section": how many an array of a series has
abbrev pub places : ℕ
places = accounts * sections

-- the place of an account's section: "places are ordered by account and then section"
unfoldable pub place_in : ℕ → ℕ → ℕ
place_in account section = place_among sections account section

-- the account that a place is of, and the section of it
unfoldable pub account_of : ℕ → ℕ
account_of place = account_among sections place

unfoldable pub section_of : ℕ → ℕ
section_of place = section_among sections place

-- "both sections added with sign": an account's sum over its places
unfoldable pub of_account : (ℕ → ℤ) → ℕ → ℤ
of_account f account = sum_among sections f account

-- "its two sections added without sign"
unfoldable pub gross : (ℕ → ℤ) → ℕ → ℕ
gross f account = gross_among sections f account

-- no account's sections, added without sign, are more than B in an array (past its end an element is 0)
pub record Limited (B : ℕ) (l : List ℤ) : Type 0 where
  pub each : (account : ℕ) → gross (at l) account ≤ B

-- the number and the flag at a place; 0 and false past the end
abbrev pub amount : List ℕ → ℕ → ℕ
amount l k = get_or l k 0

abbrev pub flag : List Bool → ℕ → Bool
flag l k = get_or l k false
