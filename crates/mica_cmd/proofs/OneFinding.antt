-- Bytes have findings of one status alone.
use Rattle.std.proofs.Common.{◌≡◌, ℕ, List, Option, Some, None, refl, subst}
use Rattle.partition_model.specs.declared.options.Options.{Options}
use Rattle.partition_model.specs.Options.{IsValid}
use Rattle.mica_trace.specs.declared.line.TraceLine.{TraceLine}
use Rattle.mica_trace.proofs.TraceLaws.{one_trace}
use Rattle.mica_trace.proofs.ReportLaws.{one_report}
use Rattle.report_check.specs.declared.check.Verdict.{Verdict}
use Rattle.report_check.specs.declared.check.Verdict.TheVariants as verdict
use Rattle.report_check.specs.FirstUnlawful.{IsVerdict}
use Rattle.report_check.proofs.Walks.{verdict_once}
use Rattle.mica_cmd.specs.declared.finding.Finding.{Finding}
use Rattle.mica_cmd.specs.declared.finding.Finding.TheVariants.{Lawful, Unlawful, NoReport, BadReport, NoTrace}
use Rattle.mica_cmd.specs.Findings.{HasVerdict, FindsOfReport, FindsBehind, FindsOfParts, Finds, status_of}
use Rattle.mica_cmd.proofs.Parting.{parts_once}

module _ (options : Options) (valid : IsValid options) where
  one_verdict : (trace : List TraceLine) (text : List ℕ) (a b : Verdict) → HasVerdict options trace text a → HasVerdict options trace text b → a ≡ b
  one_verdict trace text a b one two =
      verdict_once options trace one.0 a b valid one.2 (subst (λ r. IsVerdict options trace r b) (one_report text two.0 one.0 two.1 one.1) two.2)

  of_report : (trace : List TraceLine) (text : List ℕ) (a b : Finding) → FindsOfReport options trace text a → FindsOfReport options trace text b → status_of a ≡ status_of b
  of_report trace text Lawful Lawful one two = refl
  of_report trace text Lawful (Unlawful n) one two = let same = one_verdict trace text verdict.Lawful (verdict.Unlawful n) one two in absurd (cc)
  of_report trace text Lawful (BadReport n) one two = absurd (two.1 one.0 one.1)
  of_report trace text (Unlawful n) Lawful one two = let same = one_verdict trace text (verdict.Unlawful n) verdict.Lawful one two in absurd (cc)
  of_report trace text (Unlawful n) (Unlawful m) one two = refl
  of_report trace text (Unlawful n) (BadReport m) one two = absurd (two.1 one.0 one.1)
  of_report trace text (BadReport n) Lawful one two = absurd (one.1 two.0 two.1)
  of_report trace text (BadReport n) (Unlawful m) one two = absurd (one.1 two.0 two.1)
  of_report trace text (BadReport n) (BadReport m) one two = refl
  of_report trace text NoReport b one two = absurd one
  of_report trace text (NoTrace fault) b one two = absurd one
  of_report trace text a NoReport one two = absurd two
  of_report trace text a (NoTrace fault) one two = absurd two

  behind : (trace : List TraceLine) (after : Option (List ℕ)) (a b : Finding) → FindsBehind options trace after a → FindsBehind options trace after b → status_of a ≡ status_of b
  behind trace (Some text) a b one two = of_report trace text a b one two
  behind trace None NoReport NoReport one two = refl
  behind trace None NoReport _ one two = absurd two
  behind trace None _ b one two = absurd one

  trace_behind : (before : List ℕ) (after : Option (List ℕ)) (a b : Finding) → (x : List TraceLine) → FindsBehind options x after a → (y : List TraceLine) → FindsBehind options y after b → x ≡ y → status_of a ≡ status_of b
  trace_behind before after a b x one y two same = behind y after a b (subst (λ t. FindsBehind options t after a) same one) two

  of_parts : (before : List ℕ) (after : Option (List ℕ)) (a b : Finding) → FindsOfParts options before after a → FindsOfParts options before after b → status_of a ≡ status_of b
  of_parts before after (NoTrace fault) (NoTrace other) one two = refl
  of_parts before after (NoTrace fault) _ one two = absurd (one.2 two.0 two.1)
  of_parts before after _ (NoTrace fault) one two = absurd (two.2 one.0 one.1)
  of_parts before after a b one two = trace_behind before after a b one.0 one.2 two.0 two.2 (one_trace before one.0 two.0 one.1 two.1)

  pub one_finding : (bytes : List ℕ) (a b : Finding) → Finds options bytes a → Finds options bytes b → status_of a ≡ status_of b
  one_finding bytes a b one two =
      let same = parts_once bytes one.0 two.0 one.1 two.1 one.2 two.2 in
      of_parts two.0 two.1 a b (subst (λ p. FindsOfParts options p two.1 a) same.0 (subst (λ o. FindsOfParts options one.0 o a) same.1 one.3)) two.3
