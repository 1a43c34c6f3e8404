-- How reasons and limits are named.
use Rattle.std.specs.Prelude.{ℕ, List, codes}
use Rattle.session_script.specs.declared.why.Why.{Why}
use Rattle.session_script.specs.declared.why.Why.TheVariants as why
use Rattle.session_script.specs.declared.limits.Limit.{Limit}
use Rattle.session_script.specs.declared.limits.Limit.TheVariants as limit

abbrev pub why_text : Why → List ℕ
why_text why.Utf8 = codes "utf8"
why_text why.Session = codes "session"
why_text why.Verb = codes "verb"
why_text why.Handle = codes "handle"
why_text why.Path = codes "path"
why_text why.Access = codes "access"
why_text why.Flag = codes "flag"
why_text why.Number = codes "number"
why_text why.Payload = codes "payload"
why_text why.Words = codes "words"
why_text why.Unbuilt = codes "unbuilt"

abbrev pub limit_text : Limit → List ℕ
limit_text limit.Script = codes "script"
limit_text limit.Lines = codes "lines"
limit_text limit.Reads = codes "reads"

-- the most that is allowed
abbrev pub most_of : Limit → ℕ
most_of limit.Script = 16777216
most_of limit.Lines = 65536
most_of limit.Reads = 67108864
