use Rattle.std.proofs.Common.{◌≡◌, ◌+◌, length, refl, ap, ◌∙◌, arith}
use Rattle.std.proofs.lemmas.Result.{err_from_is_err_and}
use Rattle.std.specs.Int.{w32}
use Rattle.migration_model.specs.Memory.{put}
use Rattle.migration_model.specs.Numbers.{text_of}
use Rattle.migration_model.specs.Trace.{write_with}
use Rattle.trace_writer.specs.Recordings.{with_write}
use Rattle.trace_writer.specs.declared.error.RecordingError.TheVariants.{Trace as OfTrace}
use Rattle.trace_writer.proofs.Appended.{end_is, records_more}
use Rattle.trace_writer.proofs.OneRefusal.{not_refused}
use Rattle.trace_writer.proofs.Refused.{any_none, any_short, any_some}
use Rattle.trace_writer.proofs.recording.Recording.append.Goals as goal

pub returns-in_err-test_write-clause-accepted : goal.returns-in_err-test_write-clause-accepted
returns-in_err-test_write-clause-accepted c t records is fits =
    let write = write_with c.args.tick c.args.page c.args.offset c.args.bytes.now in
    let end : c.saturating_add-end.result ≡ c.args.self.now.length + (16 + length c.args.bytes.now) =
    omega (arith, c.saturating_add-end.ensures, records.tells.size_is, records.tells.is_trace.short) in
    absurd (not_refused (with_write t write) (length c.args.trace.now) (OfTrace _) is fits
    (c.in_err-test_write.ensures.refused t records.tells end))

pub returns-in_err-test_write-clause-first : goal.returns-in_err-test_write-clause-first
returns-in_err-test_write-clause-first c =
    let write = write_with c.args.tick c.args.page c.args.offset c.args.bytes.now in
    let p = err_from_is_err_and c.from_residual.result c.from_residual.ensures.1 in
    rw (p.1, p.2) (any_some c.args.self.now write c.saturating_add-end.result (length c.args.trace.now) _
    c.saturating_add-end.ensures c.in_err-test_write.ensures.first)

pub returns-then-trace-end-clause-refused : goal.returns-then-trace-end-clause-refused
returns-then-trace-end-clause-refused c t records =
    let write = write_with c.args.tick c.args.page c.args.offset c.args.bytes.now in
    let end : c.saturating_add-end.result ≡ c.args.self.now.length + (16 + length c.args.bytes.now) =
    omega (arith, c.saturating_add-end.ensures, records.tells.size_is, records.tells.is_trace.short) in (
      c.in_ok-test_write.ensures.accepted t records.tells end,
      omega (arith, end_is c.args.self.now t write c.saturating_add-end.result records.tells end, c.if-trace-end.true),
    )

pub returns-then-trace-end-clause-accepted : goal.returns-then-trace-end-clause-accepted
returns-then-trace-end-clause-accepted c t records is fits =
    let write = write_with c.args.tick c.args.page c.args.offset c.args.bytes.now in
    let end : c.saturating_add-end.result ≡ c.args.self.now.length + (16 + length c.args.bytes.now) =
    omega (arith, c.saturating_add-end.ensures, records.tells.size_is, records.tells.is_trace.short) in
    absurd (omega (
      arith,
      end_is c.args.self.now t write c.saturating_add-end.result records.tells end,
      fits,
      c.if-trace-end.true,
    ))

pub returns-then-trace-end-clause-first : goal.returns-then-trace-end-clause-first
returns-then-trace-end-clause-first c =
    let write = write_with c.args.tick c.args.page c.args.offset c.args.bytes.now in
    any_short c.args.self.now write c.saturating_add-end.result (length c.args.trace.now)
    c.saturating_add-end.ensures c.in_ok-test_write.ensures.none c.if-trace-end.true

pub returns-clause-written : goal.returns-clause-written
returns-clause-written c t records =
    let write = write_with c.args.tick c.args.page c.args.offset c.args.bytes.now in
    let end : c.saturating_add-end.result ≡ c.args.self.now.length + (16 + length c.args.bytes.now) =
    omega (arith, c.saturating_add-end.ensures, records.tells.size_is, records.tells.is_trace.short) in
    rw (c.put_count.ensures, c.put_write.ensures) (records_more c.args.trace.now c.args.self.now _ t write end refl refl
    refl refl (omega (arith, c.if-trace-end.false)) (c.in_ok-test_write.ensures.accepted t records.tells end) records)

pub returns-clause-bytes : goal.returns-clause-bytes
returns-clause-bytes c =
    c.put_count.ensures ∙ ap (λ x. put x 12 (text_of w32 (c.args.self.now.writes + 1))) c.put_write.ensures

pub returns-clause-recording : goal.returns-clause-recording
returns-clause-recording c =
    let end : c.saturating_add-end.result ≡ c.args.self.now.length + (16 + length c.args.bytes.now) =
    omega (arith, c.saturating_add-end.ensures, c.if-trace-end.false) in
    λ i. record {
      length = end i;
      last_tick = c.args.tick;
      writes = c.args.self.now.writes + 1;
      pages = c.args.self.now.pages;
      shift = c.args.self.now.shift;
    }

pub returns-clause-none : goal.returns-clause-none
returns-clause-none c =
    let write = write_with c.args.tick c.args.page c.args.offset c.args.bytes.now in
    let end : c.saturating_add-end.result ≡ c.args.self.now.length + (16 + length c.args.bytes.now) =
    omega (arith, c.saturating_add-end.ensures, c.if-trace-end.false) in
    any_none c.args.self.now write c.saturating_add-end.result (length c.args.trace.now) end
    c.saturating_add-end.ensures c.in_ok-test_write.ensures.none c.if-trace-end.false
