-- `missing_mark::first_unmarked` meets its contract: what the search from i on finds is what the whole search finds.
use mathlib.Core.Path.{sym, ◌∙◌}
use Prim.Native.Nat.{◌<◌}
use native.Mathlib.Omega.{arith}
use Rattle.book.proofs.Search.{unmarked_here, marked_here, expired_here, search_ends, search_starts}
use Rattle.missing_mark.proofs.first_unmarked.Goals.{then-book-s+else-not-s, else-book-s}
use Rattle.missing_mark.proofs.first_unmarked.Goals as goal

pub loop-i-init : goal.loop-i-init
loop-i-init c = (omega arith, search_starts c.args.book)

pub offset_bounds-book-i : goal.offset_bounds-book-i
offset_bounds-book-i c = omega (arith, c.requires.listed)

pub bounds-book-i : goal.bounds-book-i
bounds-book-i c = omega (arith, c.requires.listed)

pub overflow_cast-found : goal.overflow_cast-found
overflow_cast-found c = omega (arith, c.if-book-i.false, c.requires.listed)

pub loop-i-preserved : goal.loop-i-preserved
loop-i-preserved c =
    let at : c.loop-i.i < c.args.book.listed = c.if-book-i.false in
    elim c.if-book-s.branch [
      | then-book-s+else-not-s w ↦ (omega (arith, at), c.loop-i.invariant.1 ∙ marked_here c.args.book c.loop-i.i at w.if-book-s.true w.if-not-s.false)
      | else-book-s w ↦ (omega (arith, at), c.loop-i.invariant.1 ∙ expired_here c.args.book c.loop-i.i at w.if-book-s.false)
    ]

pub returns-then-book-i : goal.returns-then-book-i
returns-then-book-i c = sym (c.loop-i.invariant.1 ∙ search_ends c.args.book c.loop-i.i c.if-book-i.true)

pub returns-then-not-s : goal.returns-then-not-s
returns-then-not-s c =
    let t = c.before.before in
    let e = t.before.before.before in
    let l = e.before in
    sym (l.loop-i.invariant.1 ∙ unmarked_here l.args.book l.loop-i.i e.if-book-i.false t.if-book-s.true c.if-not-s.true)
