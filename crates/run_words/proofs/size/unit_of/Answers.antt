use Rattle.std.proofs.Common.{codes, sym, subst, arith, rules}
use Rattle.std.proofs.lemmas.Slice.Eq.{text_from_reads}
use Rattle.run_words.specs.Sizes.{IsUnit}
use Rattle.run_words.specs.Sizes.IsUnit.{b, k, ki, m, mi, g, gi, t, ti}
use Rattle.run_words.proofs.size.unit_of.Goals as goal

pub returns-in-B-clause-found : goal.returns-in-B-clause-found
returns-in-B-clause-found c = subst (λ w. IsUnit w 1)
    (sym (text_from_reads c.args.letters.now (codes "B") (omega arith) (search rules))) b

pub returns-in-K-clause-found : goal.returns-in-K-clause-found
returns-in-K-clause-found c = subst (λ w. IsUnit w 1024)
    (sym (text_from_reads c.args.letters.now (codes "K") (omega arith) (search rules))) k

pub returns-in-Ki-clause-found : goal.returns-in-Ki-clause-found
returns-in-Ki-clause-found c = subst (λ w. IsUnit w 1024)
    (sym (text_from_reads c.args.letters.now (codes "Ki") (omega arith) (search rules))) ki

pub returns-in-M-clause-found : goal.returns-in-M-clause-found
returns-in-M-clause-found c = subst (λ w. IsUnit w 1048576)
    (sym (text_from_reads c.args.letters.now (codes "M") (omega arith) (search rules))) m

pub returns-in-Mi-clause-found : goal.returns-in-Mi-clause-found
returns-in-Mi-clause-found c = subst (λ w. IsUnit w 1048576)
    (sym (text_from_reads c.args.letters.now (codes "Mi") (omega arith) (search rules))) mi

pub returns-in-G-clause-found : goal.returns-in-G-clause-found
returns-in-G-clause-found c = subst (λ w. IsUnit w 1073741824)
    (sym (text_from_reads c.args.letters.now (codes "G") (omega arith) (search rules))) g

pub returns-in-Gi-clause-found : goal.returns-in-Gi-clause-found
returns-in-Gi-clause-found c = subst (λ w. IsUnit w 1073741824)
    (sym (text_from_reads c.args.letters.now (codes "Gi") (omega arith) (search rules))) gi

pub returns-in-T-clause-found : goal.returns-in-T-clause-found
returns-in-T-clause-found c = subst (λ w. IsUnit w 1099511627776)
    (sym (text_from_reads c.args.letters.now (codes "T") (omega arith) (search rules))) t

pub returns-in-Ti-clause-found : goal.returns-in-Ti-clause-found
returns-in-Ti-clause-found c = subst (λ w. IsUnit w 1099511627776)
    (sym (text_from_reads c.args.letters.now (codes "Ti") (omega arith) (search rules))) ti
