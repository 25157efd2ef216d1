-- All forms of the library keep their meaning.
use Rattle.std.proofs.Common.{◌≡◌}
use Rattle.std.specs.Prelude.{IsTrue}
use Rattle.stream_types.specs.declared.scalar.Scalar.{Scalar}
use Rattle.stream_types.specs.Scalars.{is_integer}
use Rattle.stream_core.specs.declared.node.LibForm.{LibForm}
use Rattle.stream_core.specs.declared.node.LibForm.TheVariants as form
use Rattle.stream_core.specs.Term.{Term, Terms, abs, sign, majority, agreed}
use Rattle.stream_core.specs.Children.{term_list}
use Rattle.stream_core.specs.Eval.{Moment, value}
use Rattle.stream_core.specs.Lower.{abs_term, sign_term, majority_term, agreed_term}
use Rattle.stream_core.specs.WellTyped.{IsGoodForm}
use Rattle.form_laws.specs.Buffers.{FormIsKept}
use Rattle.form_laws.specs.ScalarTerms.{HasWord}
use Rattle.form_laws.specs.VoteTerms.{HaveVotes}
use Rattle.form_laws.proofs.OnceSteps.{once_kept}
use Rattle.form_laws.proofs.HistoricallySteps.{historically_kept}
use Rattle.form_laws.proofs.YesterdaySteps.{yesterday_kept, weakly_kept}
use Rattle.form_laws.proofs.SinceSteps.{since_kept}
use Rattle.form_laws.proofs.ClockSteps.{clock_kept}
use Rattle.form_laws.proofs.OnceWithin.{once_in_kept}
use Rattle.form_laws.proofs.HistoricallyWithin.{historically_in_kept}
use Rattle.form_laws.proofs.SinceWithin.{since_in_kept}
use Rattle.form_laws.proofs.WindowSums.{sum_is_kept}
use Rattle.form_laws.proofs.WindowExtremes.{greatest_is_kept, least_is_kept}
use Rattle.form_laws.proofs.SizeWords.{abs_kept, sign_kept}
use Rattle.form_laws.proofs.VoteWords.{majority_kept, agreed_kept}

-- each form with buffers keeps its meaning over them
pub record AllFormsKept : Type 0 where
  pub kept : (f : LibForm) → IsGoodForm f → FormIsKept f

-- The plain expressions of the forms without a buffer have their values.
pub record PlainFormsKept : Type 0 where
  pub abs : (m : Moment) (s : Scalar) (e : Term) → IsTrue (is_integer s) → HasWord m s e → value m (abs_term s e) ≡ value m (abs s e)
  pub sign : (m : Moment) (s : Scalar) (e : Term) → IsTrue (is_integer s) → HasWord m s e → value m (sign_term s e) ≡ value m (sign s e)
  pub majority : (m : Moment) (s : Scalar) (es : Terms) → HaveVotes m s es → value m (majority_term s (term_list es)) ≡ value m (majority s es)
  pub agreed : (m : Moment) (s : Scalar) (es : Terms) → HaveVotes m s es → value m (agreed_term s (term_list es)) ≡ value m (agreed s es)

each_kept : (f : LibForm) → IsGoodForm f → FormIsKept f
each_kept form.Once good = once_kept
each_kept form.Historically good = historically_kept
each_kept form.Yesterday good = yesterday_kept
each_kept form.WeaklyYesterday good = weakly_kept
each_kept form.Since good = since_kept
each_kept (form.OnceIn low high) good = once_in_kept low high good.0
each_kept (form.HistoricallyIn low high) good = historically_in_kept low high good.0
each_kept (form.SinceIn low high) good = since_in_kept low high good.0
each_kept (form.Clock period phase) good = clock_kept period phase good
each_kept (form.WindowMax n s) good = greatest_is_kept n s good
each_kept (form.WindowMin n s) good = least_is_kept n s good
each_kept (form.WindowSum n s) good = sum_is_kept n s good

pub all_kept : AllFormsKept
all_kept = record { kept = each_kept }

pub plain_kept : PlainFormsKept
plain_kept = record {
  abs = λ m s e i has. abs_kept m s e i has;
  sign = λ m s e i has. sign_kept m s e i has;
  majority = majority_kept;
  agreed = agreed_kept;
}
