-- `put_decimal` calls itself on n / 10, which is below n.
use Rattle.listing.proofs.+put_decimal.Given as goal

abbrev pub decreases-put_decimal : goal.decreases-put_decimal
decreases-put_decimal l = l.n
