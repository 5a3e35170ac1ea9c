-- The same limits, in the words of QEMU's monitor and of libvirt. A hypervisor's downtime limit is only for pages.
use Rattle.std.specs.Prelude.{ℕ, ◌-◌, ◌/◌, ◌^◌, ◌==◌, ◌||◌, nat_lt, if◌then◌else◌, List, [], ◌∷◌, ◌++◌, codes}
use Rattle.predictions.specs.declared.units.limits.Limits.{Limits}
use Rattle.sweep_report.specs.Lines.{field}

-- the downtime for pages, in milliseconds
abbrev pub millis_for_pages : Limits → ℕ
millis_for_pages limits = (limits.downtime - limits.reserve) / 1_000

-- the link in whole MiB a second
abbrev pub link_in_mib : Limits → ℕ
link_in_mib limits = limits.link / 2 ^ 20

-- some words and a number, as a line
abbrev pub number_line : List ℕ → ℕ → List ℕ
number_line words number = field words number ++ 10 ∷ []

-- words alone, as a line
abbrev pub words_line : List ℕ → List ℕ
words_line words = words ++ 10 ∷ []

-- a rate in bytes a second: 66 is `B`
abbrev pub bandwidth_line : ℕ → List ℕ
bandwidth_line link = field (codes "QEMU: migrate_set_parameter max-bandwidth ") link ++ 66 ∷ 10 ∷ []

-- a downtime in milliseconds, of which QEMU takes at most 2,000 s
unfoldable pub qemu_downtime : ℕ → List ℕ
qemu_downtime millis =
    if nat_lt 2_000_000 millis then words_line (codes "QEMU: takes a downtime of at most 2,000 s")
    else number_line (codes "QEMU: migrate_set_parameter downtime-limit ") millis

abbrev pub qemu_text : Limits → List ℕ
qemu_text limits = bandwidth_line limits.link ++ qemu_downtime (millis_for_pages limits)

-- a speed in MiB a second: by 0 libvirt means no limit
unfoldable pub libvirt_speed : ℕ → List ℕ
libvirt_speed mib =
    if mib == 0 then words_line (codes "libvirt: takes whole MiB a second, and the link has less than one")
    else number_line (codes "libvirt: virsh migrate-setspeed DOMAIN ") mib

-- a downtime in milliseconds, of which libvirt takes what QEMU does, but 0
unfoldable pub libvirt_downtime : ℕ → List ℕ
libvirt_downtime millis =
    if millis == 0 || nat_lt 2_000_000 millis then words_line (codes "libvirt: takes a downtime of 1 ms to 2,000 s")
    else number_line (codes "libvirt: virsh migrate-setmaxdowntime DOMAIN ") millis

abbrev pub libvirt_text : Limits → List ℕ
libvirt_text limits = libvirt_speed (link_in_mib limits) ++ libvirt_downtime (millis_for_pages limits)

abbrev pub hosts_text : Limits → List ℕ
hosts_text limits = qemu_text limits ++ libvirt_text limits
