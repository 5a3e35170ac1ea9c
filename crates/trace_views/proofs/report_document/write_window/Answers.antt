use Rattle.std.proofs.Common.{◌≡◌, ap, append_assoc}
use Rattle.migration_model.specs.Windows.{WindowRow}
use Rattle.trace_views.proofs.report_document.write_window.Goals as goal

pub returns : goal.returns
returns c =
    let number : c.window.inside.number ≡ c.args.window.now.number =
    ap (λ (w : WindowRow). w.number) c.window.view_is in
    let writes : c.window.inside.writes ≡ c.args.window.now.writes =
    ap (λ (w : WindowRow). w.writes) c.window.view_is in
    let pages : c.window.inside.pages ≡ c.args.window.now.pages = ap (λ (w : WindowRow). w.pages) c.window.view_is in
    let again : c.window.inside.again ≡ c.args.window.now.again = ap (λ (w : WindowRow). w.again) c.window.view_is in
    let fresh : c.window.inside.fresh ≡ c.args.window.now.fresh = ap (λ (w : WindowRow). w.fresh) c.window.view_is in
    rw (
      c.in_ok-end_object.ensures,
      c.in_ok-write_window_units.ensures,
      c.in_ok-number_member-5.ensures,
      c.in_ok-number_member-4.ensures,
      c.in_ok-number_member-3.ensures,
      c.in_ok-number_member-2.ensures,
      c.in_ok-number_member.ensures,
      c.in_ok-begin_object.ensures,
      number,
      writes,
      pages,
      again,
      fresh,
    )
    (simp append_assoc)
