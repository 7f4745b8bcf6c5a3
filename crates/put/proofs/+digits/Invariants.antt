use Rattle.put.proofs.+digits.Given as goal

-- `put::digits` calls itself on the quotient, which is smaller.
abbrev pub decreases-digits : goal.decreases-digits
decreases-digits l = l.n
