use mathlib.Core.Path.{sym, ◌∙◌}
use Rattle.expander_rules.proofs.Calls.{not_nine, long_stream, malformed}
use Rattle.expander.proofs.expand_checked.Goals as goal

pub returns-in_default : goal.returns-in_default
returns-in_default c = sym (not_nine _ _ _ _ c.in_default.ensures.cases)

pub returns-then-input-gt-STREAM_WORDS : goal.returns-then-input-gt-STREAM_WORDS
returns-then-input-gt-STREAM_WORDS c = sym (long_stream _ _ _ _ c.in-Some.ensures.cases.long c.if-input-gt-STREAM_WORDS.true)

pub returns-then-not-load_formed : goal.returns-then-not-load_formed
returns-then-not-load_formed c =
    sym (malformed _ _ _ _ c.in-Some.ensures.cases.long c.if-input-gt-STREAM_WORDS.false (sym c.load_formed.ensures ∙ c.if-not-load_formed.true))
