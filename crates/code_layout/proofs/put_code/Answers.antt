-- `code_layout::put_code` meets its contract.
use native.Mathlib.Omega.{arith}
use Rattle.contract.specs.Style.{style_text}
use Rattle.contract.proofs.Writing.{code_length, head_length, put_all}
use Rattle.code_layout.proofs.put_code.Goals as goal

pub put_head-b-requires : goal.put_head-b-requires
put_head-b-requires c = (omega (arith, code_length c.args.future.now c.args.terms), c.requires.1)

pub put_letters-c-requires : goal.put_letters-c-requires
put_letters-c-requires c = omega (arith, code_length c.args.future.now c.args.terms, head_length c.args.future.now c.args.terms)

pub put_blank-d-requires : goal.put_blank-d-requires
unfolding style_text
put_blank-d-requires c = omega (arith, code_length c.args.future.now c.args.terms, head_length c.args.future.now c.args.terms, c.put_head-b.ensures.place, c.put_head-b.auto.out)

pub put_text-requires : goal.put_text-requires
unfolding style_text
put_text-requires c = omega (arith, code_length c.args.future.now c.args.terms, head_length c.args.future.now c.args.terms, c.put_head-b.ensures.place, c.put_head-b.auto.out, c.put_letters-c.ensures.place, c.put_letters-c.auto.out)

pub returns : goal.returns
returns c = search put_all
