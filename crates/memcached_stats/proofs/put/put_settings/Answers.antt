use Rattle.std.proofs.Common.{◌≡◌, ◌++◌, ap, ◌∙◌, arith, append_assoc}
use Rattle.std.specs.Prelude.{sum_by}
use Rattle.memcached_stats.specs.Lines.{most_len}
use Rattle.memcached_stats.specs.Stats.{fixed_stats, lines_of, start_stats}
use Rattle.memcached_stats.proofs.put.put_settings.Goals as goal

pub returns-clause-ok : goal.returns-clause-ok
returns-clause-ok c =
    let style = c.args.style.now in
    let before = c.args.out.now.items in
    let start = lines_of style (start_stats c.args.about.now) in
    let one : c.put_lines.new.out.items ≡ before ++ start = c.in_ok-put_lines.ensures.ok ∙ (λ i. before ++ lines_of style (c.start_lines.ensures.are i)) in
    c.in_ok-put_lines-2.ensures.ok ∙ (λ i. one i ++ lines_of style (c.fixed_lines.ensures.are i)) ∙ append_assoc before start (lines_of style fixed_stats)

pub returns-clause-short : goal.returns-clause-short
returns-clause-short c =
    let start = ap (sum_by most_len) c.start_lines.ensures.are in
    let fixed = ap (sum_by most_len) c.fixed_lines.ensures.are in omega (arith, c.in_ok-put_lines.ensures.short, start, c.in_ok-put_lines-2.ensures.short, fixed)

pub returns-clause-more : goal.returns-clause-more
returns-clause-more c = (_, returns-clause-ok c)
