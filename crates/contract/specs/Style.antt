-- The style of a code (RULES, "Contract codes"): "Share-option lists print one blank (byte 32) between the category letter and the strike,
-- the oil lists none."
use Rattle.std.specs.Prelude.{ℕ, List, [], ◌∷◌, Option, Some, None}
use Rattle.decimal.specs.Scan.{on_scanned, byte_at}
use Rattle.contract.specs.declared.types.Style.{Style}
use Rattle.contract.specs.declared.types.Style.TheVariants.{Blank, NoBlank}

unfoldable pub style_text : Style → List ℕ
style_text Blank = 32 ∷ []
style_text NoBlank = []

-- reading it at a place: the strike begins at once where no blank stands, else behind the blank; "More than one blank is 17"
unfoldable pub style_at : List ℕ → ℕ → Option (Style × ℕ)
style_at s at =
    on_scanned (byte_at s at 32) (Some (NoBlank, at)) (λ next.
    on_scanned (byte_at s next 32) (Some (Blank, next)) (λ more. None))

unfoldable pub on_style : {A : Type 0} → Option (Style × ℕ) → A → (Style → ℕ → A) → A
on_style (Some (z, n)) none next = next z n
on_style None none next = none
