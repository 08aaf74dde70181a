-- Where the tokens of a program stand: its source, and the text of the library's functions that have a body here.
use Rattle.std.specs.Prelude.{◌-◌, ◌++◌, ℕ, List, length, min, nat_lt, if◌then◌else◌, codes}
use Rattle.std.specs.Fmt.{decimal}
use Rattle.c_lexer.specs.Places.{located}
use Rattle.c_language.specs.declared.token.Spot.{Spot}

-- that text: the definitions of `c_means` are the trees of these lines, by the offset in them and 2^31 more
unfoldable pub prelude_text : List ℕ
prelude_text =
    codes "unsigned long strlen(const char *s) { unsigned long n = 0; while (s[n]) n++; return n; }\n"
    ++ codes "int strcmp(const char *a, const char *b) { unsigned long i = 0; while (a[i] && a[i] == b[i]) i++; return (unsigned char)a[i] - (unsigned char)b[i]; }\n"
    ++ codes "int strncmp(const char *a, const char *b, unsigned long n) { unsigned long i = 0; while (i < n && a[i] && a[i] == b[i]) i++; if (i == n) return 0; return (unsigned char)a[i] - (unsigned char)b[i]; }\n"
    ++ codes "char *strchr(const char *s, int c) { while (*s != (char)c) { if (!*s) return 0; s++; } return (char *)s; }\n"
    ++ codes "char *strcpy(char *d, const char *s) { unsigned long i = 0; while ((d[i] = s[i])) i++; return d; }\n"
    ++ codes "char *strcat(char *d, const char *s) { unsigned long n = 0; unsigned long i = 0; while (d[n]) n++; while ((d[n + i] = s[i])) i++; return d; }\n"
    ++ codes "void *memset(void *d, int c, unsigned long n) { unsigned char *p = d; unsigned long i; for (i = 0; i < n; i++) p[i] = c; return d; }\n"
    ++ codes "void *memcpy(void *d, const void *s, unsigned long n) { unsigned char *p = d; const unsigned char *q = s; unsigned long i; for (i = 0; i < n; i++) p[i] = q[i]; return d; }\n"
    ++ codes "int atoi(const char *s) { int v = 0; int g = 1; while (*s == ' ' || (*s >= 9 && *s <= 13)) s++; if (*s == '-') { g = -1; s++; } else if (*s == '+') s++; while (*s >= '0' && *s <= '9') { v = v * 10 + g * (*s - '0'); s++; } return v; }\n"

-- the place of a byte of a source of this name, by the line markers before it; of what stands behind it, that of the end
abbrev pub within : List ℕ → List ℕ → ℕ → Spot
within name bytes at = located name bytes (min at (length bytes))

-- the place of the token with an offset
abbrev pub spot_at : List ℕ → List ℕ → ℕ → Spot
spot_at name source at =
    if nat_lt at 2147483648 then within name source at else within (codes "<prelude>") prelude_text (at - 2147483648)

-- a place as FILE:LINE:COL
abbrev pub spot_text : Spot → List ℕ
spot_text spot = spot.file ++ (codes ":" ++ (decimal spot.line ++ (codes ":" ++ decimal spot.column)))
