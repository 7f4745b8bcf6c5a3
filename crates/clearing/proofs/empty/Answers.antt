-- `clearing::empty` meets its contract.
use mathlib.Core.Path.{◌≡◌, sym, subst}
use lib.ListN.{replicate}
use Rattle.terms.specs.Bounds.{series_room}
use Rattle.book.specs.Good.{Good}
use Rattle.book.specs.State.{empty_book, with_all_series}
use Rattle.book.specs.declared.state.Book.{Book}
use Rattle.book.proofs.KeepsEmpty.{good_empty}
use Rattle.clearing.proofs.empty.Goals.{After-new_series-blank}
use Rattle.clearing.proofs.empty.Goals as goal

is_empty : (c : After-new_series-blank) → with_all_series empty_book (replicate series_room c.new_series-blank.result) ≡ empty_book
is_empty c = λ i. with_all_series empty_book (replicate series_room (c.new_series-blank.ensures i))

pub returns : goal.returns
returns c = (is_empty c, subst (λ (b : Book). Good b) (sym (is_empty c)) good_empty)
