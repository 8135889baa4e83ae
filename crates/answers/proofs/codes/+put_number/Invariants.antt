use Rattle.answers.proofs.codes.+put_number.Given as goal

-- each number is shorter than the one before
abbrev pub decreases-put_number : goal.decreases-put_number
decreases-put_number l = l.number
