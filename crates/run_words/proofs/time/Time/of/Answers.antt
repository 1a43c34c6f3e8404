use Rattle.std.proofs.Common.{◌==◌, length, ap, sym, ◌∙◌, arith}
use Rattle.std.proofs.lemmas.Bool.{eqb-true}
use Rattle.run_words.proofs.Numbers.{not_true_and_false}
use Rattle.run_words.proofs.TimeWords.{same_read, not_empty}
use Rattle.run_words.proofs.time.Time.of.Goals as goal

pub returns-then-is_empty-clause-none : goal.returns-then-is_empty-clause-none
returns-then-is_empty-clause-none c = λ time spells.
    let size = not_empty c.args.word.now time spells in
    let none = eqb-true (length c.args.word.now) 0 (sym c.is_empty.ensures ∙ c.if-is_empty.true) in
    absurd (omega (arith, size, none))

pub returns-then-not-is_empty-clause-none : goal.returns-then-not-is_empty-clause-none
returns-then-not-is_empty-clause-none c = λ time spells.
    let read = same_read c.args.word.now c.of-millis.result.rest.now (record {
      hours = c.of-hours.result.number;
      minutes = c.of-minutes.result.number;
      seconds = c.of-seconds.result.number;
      millis = c.of-millis.result.number;
    })
    time (record {
      hours_rest = c.of-hours.result.rest.now;
      minutes_rest = c.of-minutes.result.rest.now;
      seconds_rest = c.of-seconds.result.rest.now;
      hours = record {
        parts = c.of-hours.ensures.parts;
        short = c.of-hours.ensures.short;
        after = c.of-hours.ensures.after;
        none = c.of-hours.ensures.none;
      };
      minutes = record {
        parts = c.of-minutes.ensures.parts;
        short = c.of-minutes.ensures.short;
        after = c.of-minutes.ensures.after;
        none = c.of-minutes.ensures.none;
      };
      seconds = record {
        parts = c.of-seconds.ensures.parts;
        short = c.of-seconds.ensures.short;
        after = c.of-seconds.ensures.after;
        none = c.of-seconds.ensures.none;
      };
      millis = record {
        parts = c.of-millis.ensures.parts;
        short = c.of-millis.ensures.short;
        after = c.of-millis.ensures.after;
        none = c.of-millis.ensures.none;
      };
    })
    spells in
    not_true_and_false c.is_empty-2.result (c.is_empty-2.ensures ∙ ap (λ rest. length rest == 0) read.1) c.if-not-is_empty.true
